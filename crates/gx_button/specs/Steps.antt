-- The steps of a kill from the page, and why none are made.
use Rattle.std.specs.Prelude.{◌≡◌, ℕ, ◌+◌, Bool, true, false, List, Option, Some, None, Result, Ok, Err, IsFalse, IsTrue}
use Rattle.gx_units.specs.{Spelling.folded_user, declared.names.{AccountName.AccountName, SessionName.SessionName}}
use Rattle.gx_desk.specs.declared.{Action.Action, Tag.Tag}
use Rattle.gx_policy.specs.declared.policy.PolicyData.{PolicyData}
use Rattle.gx_history.specs.{declared.record.{Asked.Asked, Request.Request}, Logins.blank_session}
use Rattle.gx_access_gate.specs.{declared.outcome.{LoginAnswer.LoginAnswer, Outcome.Outcome, StepFault.StepFault}, Gates.left_by}
use Rattle.gx_pass.specs.{declared.view.LineView.LineView, Views.mine}
use Rattle.gx_door.specs.{declared.caller.Caller.Caller, Matching.Turns, Acts.{asked_on, gate_met, login_on, AddsOwn, IsToldFull, LogsIn, MayBeRefused}, Callers.caller_of}
use Rattle.gx_http.specs.declared.{credentials.Credentials.Credentials, forms.{KillForm.KillForm}}
use Rattle.gx_button.specs.{declared.steps.{Decided.Decided, Deed.Deed, Refusal.Refusal}, Permission.may_user_kill, Tokens.{same_page_token, page_token}}

-- an officer or a reader, with his password
abbrev pub is_staff : PolicyData → Credentials → Bool
is_staff policy who = by_caller (caller_of policy who.user who.password)
  where
    by_caller : Caller → Bool
    by_caller Caller.Staff = true
    by_caller Caller.Trader = false
    by_caller Caller.Stranger = false

-- a caller with his password, the token of his page, and the power and the account
pub record IsPermitted (policy : PolicyData) (secret : List ℕ) (who : Credentials) (form : KillForm) : Type 0 where
  pub staff : IsTrue (is_staff policy who)
  pub token : IsTrue (same_page_token form.token (page_token secret (folded_user who.user)))
  pub power : IsTrue (may_user_kill policy (folded_user who.user) form.account)

-- why a caller may not, by the first reason there is
abbrev pub IsRefusal : PolicyData → List ℕ → Option Credentials → KillForm → Refusal → Type 0
IsRefusal policy secret None form Refusal.Unauthorized = Unit {0}
IsRefusal policy secret (Some who) form Refusal.Unauthorized = IsFalse (is_staff policy who)
IsRefusal policy secret (Some who) form Refusal.NoToken =
    IsTrue (is_staff policy who) × IsFalse (same_page_token form.token (page_token secret (folded_user who.user)))
IsRefusal policy secret (Some who) form Refusal.NoPower =
    IsTrue (is_staff policy who) × IsTrue (same_page_token form.token (page_token secret (folded_user who.user))) × IsFalse (may_user_kill policy (folded_user who.user) form.account)
IsRefusal policy secret None form Refusal.NoToken = ⊥
IsRefusal policy secret None form Refusal.NoPower = ⊥

-- the command that the form asks for
abbrev pub kill_command : Tag → AccountName → Request
kill_command tag account = Request.Command (record { tag = tag; action = Action.Kill account })

-- a step was refused: the line has none more, and it is no granted Kill or Logout, which are never refused
abbrev pub IsRefused : PolicyData → LineView → LineView → Asked → StepFault → Type 0
IsRefused policy was is asked fault = (mine is ≡ mine was) × MayBeRefused (gate_met policy is) asked × IsToldFull (gate_met policy is) fault

-- the step was made, and its record is the next of the line's own; or it was refused
abbrev pub StepsOn : PolicyData → LineView → LineView → Asked → Result Outcome StepFault → Type 0
StepsOn policy was is asked (Ok outcome) = AddsOwn was is (left_by asked outcome)
StepsOn policy was is asked (Err fault) = IsRefused policy was is asked fault

-- the kill was made, it ended so much, and no other record came with it; or it was refused
abbrev pub KillsOn : PolicyData → LineView → LineView → Asked → Result Decided StepFault → Type 0
KillsOn policy was is asked (Ok d) = Turns policy was is (left_by asked d.outcome) d.ended asked.handed 0
KillsOn policy was is asked (Err fault) = IsRefused policy was is asked fault

-- his command, and behind it his logout
pub record AsksAndLeaves (policy : PolicyData) (was is : LineView) (who : Credentials) (request : Request) (kill : Result Decided StepFault) (logout : Result Outcome StepFault) : Type 0 where
  pub kill_moment : ℕ
  pub logout_moment : ℕ
  pub between : LineView
  pub asks : KillsOn policy was between (asked_on was.line who.user request kill_moment) kill
  pub leaves : StepsOn policy between is (asked_on was.line who.user Request.Logout logout_moment) logout

-- his login on the line, and what it was told
abbrev pub AsksIn : PolicyData → LineView → LineView → Credentials → ℕ → LoginAnswer → Type 0
AsksIn policy was is who moment answer = LogsIn policy was is (login_on policy was.line who.user who.password blank_session 0 moment) 0 answer

-- his login was granted, and behind it came his command and his logout
pub record AddsKill (policy : PolicyData) (was is : LineView) (who : Credentials) (request : Request) (kill : Result Decided StepFault) (logout : Result Outcome StepFault) : Type 0 where
  pub moment : ℕ
  pub session : SessionName
  pub first_report : ℕ
  pub between : LineView
  pub login : AsksIn policy was between who moment (LoginAnswer.Accepted session first_report)
  pub line : between.line ≡ was.line
  pub behind : AsksAndLeaves policy between is who request kill logout

-- what was done on the line
abbrev pub MakesDeed : PolicyData → LineView → LineView → Credentials → Request → Deed → Type 0
MakesDeed policy was is who request (Deed.Refused fault) = (mine is ≡ mine was) × IsToldFull (gate_met policy is) fault
MakesDeed policy was is who request (Deed.Rejected reason) = (moment : ℕ) × AsksIn policy was is who moment (LoginAnswer.Rejected reason)
MakesDeed policy was is who request (Deed.Asked kill logout) = AddsKill policy was is who request kill logout

-- a step that was made is one record
abbrev pub step_of : {X : Type 0} → Result X StepFault → ℕ
step_of (Ok x) = 1
step_of (Err fault) = 0

-- how many records these are
abbrev pub steps_of : Deed → ℕ
steps_of (Deed.Refused fault) = 0
steps_of (Deed.Rejected reason) = 1
steps_of (Deed.Asked kill logout) = 1 + step_of kill + step_of logout
