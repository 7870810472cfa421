-- What a message of the gate is to who waits for answers.
use Rattle.std.specs.{Prelude.{ℕ, Bool, false, not, ◌||◌, ◌&&◌, if◌then◌else◌, List, [], ◌∷◌, find, filter, take, bytes_eq, Option, Some, None}, List.list_any}
use Rattle.gx_units.specs.declared.names.Token.{Token}
use Rattle.gx_desk.specs.declared.Answer.{Answer}
use Rattle.gx_ouch.specs.declared.outbound.Outbound.{Outbound}
use Rattle.gx_history.specs.declared.report.Message.{Message}
use Rattle.gx_text.specs.declared.form.Form.{Form}
use Rattle.gx_lines.specs.{declared.limits.LimitForm.LimitForm, AnswerLines.{answer_line, earlier_answer_line}, OrderLines.{order_line, copy_line}}
use Rattle.gx_operator.specs.{declared.asked.ClientRequest.ClientRequest, Asking.serial_of, Answering.answers_request, Kills.{KillRoundData}}

-- the token of the order that a message is on
abbrev pub message_token : Outbound → Option Token
message_token (Outbound.SystemEvent event) = None
message_token (Outbound.Accepted m) = Some m.token
message_token (Outbound.Replaced m) = Some m.token
message_token (Outbound.Canceled m) = Some m.token
message_token (Outbound.Executed m) = Some m.token
message_token (Outbound.Rejected m) = Some m.token

-- what a message answers_request, if it answers_request anything that waits
abbrev pub answered_by : Message → List ClientRequest → Option ClientRequest
answered_by message waiting = find (answers_request message) waiting

-- what still waits for an answer behind a message
abbrev pub still_waiting : Message → List ClientRequest → List ClientRequest
still_waiting message waiting = filter (λ asked. not (answers_request message asked)) waiting

-- the token is of the run with this first serial: it has the first 8 digits of that one, of which a million have them
abbrev pub is_own_token : ℕ → Option Token → Bool
is_own_token first None = false
is_own_token first (Some token) = bytes_eq (take 8 token.bytes) (take 8 (serial_of first))

-- the line of an answer: with what was asked, where that waits; else only for who watches
abbrev pub shown_answer : Form → LimitForm → ℕ → Bool → Answer → Option ClientRequest → Option (List ℕ)
shown_answer form told moment is_watching answer (Some (ClientRequest.Command command)) = Some (answer_line form told moment command.action answer)
shown_answer form told moment is_watching answer (Some (ClientRequest.Order order)) = if is_watching then Some (earlier_answer_line form moment answer) else None
shown_answer form told moment is_watching answer None = if is_watching then Some (earlier_answer_line form moment answer) else None

-- what a client shows of itself: how it writes lines, and in them the limit of a Set Limit, the first serial of its run, the next one, what waits for an answer,
-- the several Kills of one command, whether it watches, and its status
pub record ClientState : Type 0 where
  pub form : Form
  pub limit_form : LimitForm
  pub first : ℕ
  pub next : ℕ
  pub waiting : List ClientRequest
  pub round : KillRoundData
  pub is_watching : Bool
  pub status : ℕ

-- the message answers what waits, and none of several Kills: these have a status of their own
abbrev pub is_counted : Message → ClientState → Bool
is_counted message run =
    list_any (answers_request message) run.waiting && not (list_any (answers_request message) run.round.kills)

-- the answer that counts for the status, if the message is one
abbrev pub own_answer : Message → ClientState → List Message
own_answer message run = if is_counted message run then message ∷ [] else []

-- the line that is shown of a message of this moment, if one is: of answers_request to what waits, of orders of the run's own, and
-- of all others for who watches
abbrev pub shown_line : ClientState → ℕ → Message → Option (List ℕ)
shown_line run moment (Message.Answer answer) =
    shown_answer run.form run.limit_form moment run.is_watching answer (answered_by (Message.Answer answer) run.waiting)
shown_line run moment (Message.Order message) =
    if run.is_watching || is_own_token run.first (message_token message) || list_any (answers_request (Message.Order message)) run.waiting
    then Some (order_line run.form moment message) else None
shown_line run moment (Message.DropCopy copy) =
    if run.is_watching then Some (copy_line run.form moment copy) else None
