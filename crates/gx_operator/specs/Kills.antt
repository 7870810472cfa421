-- What becomes of the accounts of one command that kills several.
use Rattle.std.specs.{Prelude.{ℕ, ◌==◌, Bool, true, false, if◌then◌else◌, List, [], ◌∷◌, ◌++◌, find, count_by, Option, Some, None}, List.list_any}
use Rattle.gx_desk.specs.declared.{Answer.Answer, AnswerCode.AnswerCode}
use Rattle.gx_history.specs.declared.report.Message.{Message}
use Rattle.gx_operator.specs.{declared.{asked.ClientRequest.ClientRequest, kills.KillOutcome.KillOutcome}, Answering.{answers_request}}

-- the Kills that were asked for, and the answers to them that were heard, in order
pub record KillRoundData : Type 0 where
  pub kills : List ClientRequest
  pub heard : List Answer

-- what a message adds to the answers that were heard: itself, where it answers one of the Kills
abbrev pub heard_of : Message → List ClientRequest → List Answer
heard_of (Message.Answer answer) kills = if list_any (answers_request (Message.Answer answer)) kills then answer ∷ [] else []
heard_of (Message.Order message) kills = []
heard_of (Message.DropCopy copy) kills = []

-- the round behind a message
abbrev pub round_behind : Message → KillRoundData → KillRoundData
round_behind message round = record round { heard = round.heard ++ heard_of message round.kills }

-- the first answer to a Kill, by its tag, if one was heard
abbrev pub answer_heard : List Answer → ClientRequest → Option Answer
answer_heard heard kill = find (λ answer. answers_request (Message.Answer answer) kill) heard

-- what a code says of the account
abbrev pub outcome_of_code : AnswerCode → KillOutcome
outcome_of_code AnswerCode.Done = KillOutcome.Killed
outcome_of_code AnswerCode.NoChange = KillOutcome.KilledAlready
outcome_of_code AnswerCode.PartlyLifted = KillOutcome.Denied
outcome_of_code AnswerCode.UnknownName = KillOutcome.Denied
outcome_of_code AnswerCode.NoPower = KillOutcome.Denied
outcome_of_code AnswerCode.NotHisAccount = KillOutcome.Denied

abbrev pub outcome_of : Option Answer → KillOutcome
outcome_of None = KillOutcome.NotAnswered
outcome_of (Some answer) = outcome_of_code answer.code

-- what became of the account of a Kill
abbrev pub kill_outcome : KillRoundData → ClientRequest → KillOutcome
kill_outcome round kill = outcome_of (answer_heard round.heard kill)

abbrev pub place_of : KillOutcome → ℕ
place_of KillOutcome.Killed = 0
place_of KillOutcome.KilledAlready = 1
place_of KillOutcome.Denied = 2
place_of KillOutcome.NotAnswered = 3

-- the account of a Kill came to this
abbrev pub came_to : KillOutcome → KillRoundData → ClientRequest → Bool
came_to wanted round kill = place_of (kill_outcome round kill) == place_of wanted

-- how many accounts came to this
abbrev pub count_of : KillOutcome → KillRoundData → ℕ
count_of wanted round = count_by (came_to wanted round) round.kills

-- the account is killed at the end
abbrev pub is_stopped : KillOutcome → Bool
is_stopped KillOutcome.Killed = true
is_stopped KillOutcome.KilledAlready = true
is_stopped KillOutcome.Denied = false
is_stopped KillOutcome.NotAnswered = false

-- 7 where an account has no answer, else 5 where one was denied, else 0
abbrev pub kills_status : KillRoundData → ℕ
kills_status round =
    if list_any (came_to KillOutcome.NotAnswered round) round.kills then 7
    else (if list_any (came_to KillOutcome.Denied round) round.kills then 5 else 0)
