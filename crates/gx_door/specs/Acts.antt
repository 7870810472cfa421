-- What calls of a shared gate do to the pass, and what they answer.
use Rattle.std.specs.Prelude.{◌≡◌, ◌↔◌, ℕ, ◌+◌, ◌≤◌, max, min, List, [], ◌∷◌, ◌++◌, length, IsFalse, Option, Some, None}
use mathlib.Core.List.{IsPrefix}
use Rattle.gx_units.specs.{declared.names.{Password.Password, SessionName.SessionName, UserName.UserName}, Spelling.{folded_password, folded_session, folded_user}}
use Rattle.gx_policy.specs.{declared.policy.PolicyData.PolicyData, Lists.slice}
use Rattle.gx_history.specs.{declared.record.{Asked.Asked, RecordData.RecordData, Request.Request}, Logins.login_asked, Verdicts.IsLegal}
use Rattle.gx_access_gate.specs.{declared.{outcome.{LoginAnswer.LoginAnswer, Outcome.Outcome, StepFault.StepFault}, pulled.Pulled.Pulled}, Gates.{GateData, left_by}, Logins.login_answered, Steps.{IsFull, never_refuses}, Reports.{ends_before, stream_of}}
use Rattle.gx_pass.specs.{declared.view.LineView.LineView, Views.{line_view, mine}}

-- what a pass has met that may be away for the time of a call
abbrev pub history_met : {T : Type 0} → (T → LineView) → Option T → LineView
history_met held None = line_view 0 [] 0
history_met held (Some pass) = held pass

-- a gate with these records
abbrev pub gate_at : PolicyData → List RecordData → GateData
gate_at policy records = record { policy = policy; records = records }

-- the gate as a pass has met it
abbrev pub gate_met : PolicyData → LineView → GateData
gate_met policy h = gate_at policy h.front

-- a request on a line; the user's name is taken in upper case
abbrev pub asked_on : ℕ → UserName → Request → ℕ → Asked
asked_on line user request moment = record { line = line; user = folded_user user; request = request; handed = moment }

-- a login on a line, with the right answers on its password and its session name
abbrev pub login_on : PolicyData → ℕ → UserName → Password → SessionName → ℕ → ℕ → Asked
login_on policy line user password session wanted moment =
    asked_on line user (login_asked policy (folded_user user) (folded_password password) (folded_session session) wanted) moment

-- the pass that comes back: what it has met is a legal history, begins with all that had been met, and is as long as had
-- been told
pub record IsLater (policy : PolicyData) (was is : LineView) : Type 0 where
  pub line : is.line ≡ was.line
  pub legal : IsLegal policy is.front
  pub front : IsPrefix was.front is.front
  pub told : was.told ≤ length is.front

-- what was met ends with the record, behind all that had been met
pub record EndsWith (was is : LineView) (r : RecordData) : Type 0 where
  pub earlier : List RecordData
  pub begins : IsPrefix was.front earlier
  pub front : is.front ≡ earlier ++ r ∷ []

-- what was met ends with the record, and it is one more of the pass's own
pub record AddsOwn (was is : LineView) (r : RecordData) : Type 0 where
  pub last : EndsWith was is r
  pub own : mine is ≡ mine was ++ r ∷ []

-- the login's record was added, and this is what the login is told after it
pub record LogsIn (policy : PolicyData) (was is : LineView) (a : Asked) (wanted : ℕ) (answer : LoginAnswer) : Type 0 where
  pub outcome : Outcome
  pub adds : AddsOwn was is (left_by a outcome)
  pub told : answer ≡ login_answered policy is.front a.user wanted outcome.verdict

-- a step is refused as one of a full day exactly where the day is full
abbrev pub IsToldFull : GateData → StepFault → Type 0
IsToldFull gate fault = fault ≡ StepFault.DayFull ↔ IsFull gate

-- these records do not make the request a granted Kill or Logout
abbrev pub MayBeRefused : GateData → Asked → Type 0
MayBeRefused gate a = IsFalse (never_refuses gate a)

-- the most reports of one pull
abbrev pub most_pulled : ℕ
most_pulled = 256

-- the user's reports from this number on, at most so many
pub record IsPulled (gate : GateData) (user : UserName) (from most : ℕ) (p : Pulled) : Type 0 where
  pub reports : p.reports ≡ slice (stream_of gate user) from (min most most_pulled)
  pub next : p.next ≡ max 1 from + length p.reports
  pub ended : p.ended ≡ ends_before gate user p.next
