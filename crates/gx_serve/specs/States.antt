-- What becomes of a session that two threads share, of its pass, and of what it asks to send.
use Rattle.std.specs.{Prelude.{◌≡◌, ℕ, ◌⊎◌, Bool, true, false, Option, Some, None}, Option.option_map_or}
use Rattle.gx_units.specs.declared.names.UserName.{UserName}
use Rattle.gx_policy.specs.declared.policy.PolicyData.{PolicyData}
use Rattle.gx_history.specs.declared.record.{Asked.Asked, Request.Request}
use Rattle.gx_access_gate.specs.{declared.outcome.{LoginAnswer.LoginAnswer, Outcome.Outcome, StepFault.StepFault}, Gates.left_by}
use Rattle.gx_soup.specs.declared.packet.{ClientPacket.ClientPacket, LoginRequest.LoginRequest}
use Rattle.gx_pass.specs.{declared.view.LineView.LineView, Views.mine}
use Rattle.gx_door.specs.{Acts.{asked_on, gate_met, login_on, AddsOwn, IsLater, IsToldFull, LogsIn, MayBeRefused}, Matching.{MatchesBehind, Turns}, declared.ended.EndedTotals.EndedTotals}
use Rattle.gx_session.specs.{declared.{event.Next.{Next, TheVariants.{Act, Logout}}, outbox.Outbox.Outbox}, Events.login_in, Happenings.Happening, Outboxes.left_after, Table.{SessionData, turn}}
use Rattle.gx_session.specs.Happenings as happens

-- the step was made: its record is one more of the pass's own, behind all that had been met
pub record WasMade (policy : PolicyData) (a : Asked) (was is : LineView) : Type 0 where
  pub later : IsLater policy was is
  pub outcome : Outcome
  pub adds : AddsOwn was is (left_by a outcome)

-- the step was made, and matching steps behind it, at the same moment; and so much its own record ended
pub record WasTurned (policy : PolicyData) (a : Asked) (was is : LineView) : Type 0 where
  pub later : IsLater policy was is
  pub outcome : Outcome
  pub ended : EndedTotals
  pub made : ℕ
  pub turns : Turns policy was is (left_by a outcome) ended a.handed made

-- matching steps were made at this moment, and nothing else
pub record WasMatched (policy : PolicyData) (moment : ℕ) (was is : LineView) : Type 0 where
  pub later : IsLater policy was is
  pub made : ℕ
  pub matches : MatchesBehind was is moment made

-- the step was refused so
pub record WasRefused (policy : PolicyData) (a : Asked) (fault : StepFault) (was is : LineView) : Type 0 where
  pub later : IsLater policy was is
  pub own : mine is ≡ mine was
  pub full : IsToldFull (gate_met policy is) fault
  pub may : MayBeRefused (gate_met policy is) a

-- a logout was made, or one that is not granted was refused
abbrev pub WasLoggedOut : PolicyData → UserName → ℕ → LineView → LineView → Type 0
WasLoggedOut policy user moment was is =
    WasMade policy (asked_on was.line user Request.Logout moment) was is
    ⊎ ((fault : StepFault) × WasRefused policy (asked_on was.line user Request.Logout moment) fault was is)

-- the logout that a session asks for
abbrev pub Outs : Next → PolicyData → UserName → ℕ → LineView → LineView → Type 0
Outs Logout policy user moment was is = WasLoggedOut policy user moment was is
Outs other policy user moment was is = is ≡ was

-- the session was told of this refusal at this moment, and the logout that it then asks for was made
pub record WasToldRefusal (policy : PolicyData) (user : UserName) (fault : StepFault) (moment : ℕ) (session : SessionData) (was : LineView) (session' : SessionData) (is : LineView) : Type 0 where
  pub told : session' ≡ (turn session (happens.Refused fault) moment).session
  pub outs : Outs (turn session (happens.Refused fault) moment).reply.next policy user moment was is

-- a step that a session asked for was refused, and the session was told of that
pub record WasGivenUp (policy : PolicyData) (user : UserName) (request : Request) (moment : ℕ) (session : SessionData) (was : LineView) (session' : SessionData) (is : LineView) : Type 0 where
  pub fault : StepFault
  pub between : LineView
  pub refused : WasRefused policy (asked_on was.line user request moment) fault was between
  pub told : WasToldRefusal policy user fault moment session between session' is

-- the step that a session asks for was made, or it was told of its refusal
abbrev pub WasFollowed : Next → PolicyData → UserName → ℕ → SessionData → LineView → SessionData → LineView → Type 0
WasFollowed (Act request) policy user moment session was session' is =
    ((session' ≡ session) × WasTurned policy (asked_on was.line user request moment) was is)
    ⊎ WasGivenUp policy user request moment session was session' is
WasFollowed Logout policy user moment session was session' is = (session' ≡ session) × WasLoggedOut policy user moment was is
WasFollowed other policy user moment session was session' is = (session' ≡ session) × (is ≡ was)

-- the session was told of an event at this moment, and what it then asks for was done
abbrev pub WasTold : PolicyData → UserName → Happening → ℕ → SessionData → LineView → SessionData → LineView → Type 0
WasTold policy user event moment session was session' is =
    WasFollowed (turn session event moment).reply.next policy user moment (turn session event moment).session was session' is

-- the session was told of the server's end at this moment, where it was asked for
abbrev pub Heeds : Bool → PolicyData → UserName → ℕ → SessionData → LineView → SessionData → LineView → Type 0
Heeds true policy user moment session was session' is = WasTold policy user happens.End moment session was session' is
Heeds false policy user moment session was session' is = (session' ≡ session) × (is ≡ was)

-- the login was made, and the session was told of what the gate answered
pub record WasLoggedIn (policy : PolicyData) (login : LoginRequest) (moment : ℕ) (session : SessionData) (was : LineView) (left : Outbox) (session' : SessionData) (is : LineView) (left' : Outbox) : Type 0 where
  pub answer : LoginAnswer
  pub between : LineView
  pub later : IsLater policy was between
  pub logs : LogsIn policy was between (login_on policy was.line login.user login.password login.session login.wanted moment) login.wanted answer
  pub told : WasTold policy login.user (happens.Answered answer) moment session between session' is
  pub sends : left' ≡ left_after left (turn session (happens.Answered answer) moment).reply.send

-- the login was refused, and the session was told of that
pub record WasTurnedAway (policy : PolicyData) (login : LoginRequest) (moment : ℕ) (session : SessionData) (was : LineView) (left : Outbox) (session' : SessionData) (is : LineView) (left' : Outbox) : Type 0 where
  pub fault : StepFault
  pub between : LineView
  pub later : IsLater policy was between
  pub own : mine between ≡ mine was
  pub full : IsToldFull (gate_met policy between) fault
  pub told : WasToldRefusal policy login.user fault moment session between session' is
  pub sends : left' ≡ left

-- what came of a login
abbrev pub WasAnswered : PolicyData → LoginRequest → ℕ → SessionData → LineView → Outbox → SessionData → LineView → Outbox → Type 0
WasAnswered policy login moment session was left session' is left' =
    WasLoggedIn policy login moment session was left session' is left'
    ⊎ WasTurnedAway policy login moment session was left session' is left'

-- what a session asked for on a packet was done: this login, if it is one
abbrev pub Serves : Option LoginRequest → Next → PolicyData → UserName → ℕ → SessionData → LineView → Outbox → SessionData → LineView → Outbox → Type 0
Serves (Some login) next policy user moment session was left session' is left' = WasAnswered policy login moment session was left session' is left'
Serves None next policy user moment session was left session' is left' = WasFollowed next policy user moment session was session' is × (left' ≡ left)

-- the session was told of a packet at this moment, and what it then asks for was done
abbrev pub WasTaken : PolicyData → UserName → ClientPacket → ℕ → SessionData → LineView → Outbox → SessionData → LineView → Outbox → Type 0
WasTaken policy user packet moment session was left session' is left' =
    let t = turn session (happens.Packet packet) moment in
    Serves (login_in packet t.reply.next) t.reply.next policy user moment t.session was (left_after left t.reply.send) session' is left'

-- who is asked for from then on
abbrev pub user_after : Next → ClientPacket → UserName → UserName
user_after next packet user = option_map_or (λ (login : LoginRequest). login.user) (login_in packet next) user

-- the pass has met more, and none of its own
pub record HasMetMore (was is : LineView) : Type 0 where
  pub line : is.line ≡ was.line
  pub own : mine is ≡ mine was
