-- What follows a row of happens.
use Rattle.std.specs.Prelude.{ℕ, Bool, true, false, ◌&&◌, not, is_none, Option, Some, None, List, [], ◌∷◌, IsTrue}
use Rattle.gx_soup.specs.declared.packet.{ClientPacket.ClientPacket, LoginRequest.LoginRequest}
use Rattle.gx_history.specs.Showing.{has_its_first}
use Rattle.gx_access_gate.specs.declared.outcome.LoginAnswer.{LoginAnswer}
use Rattle.gx_session.specs.{Happenings.Happening, declared.{event.{Next.{Next, TheVariants.{Idle, Login, Act, Logout, Close}}, Reply.Reply}, session.Phase.{Phase, TheVariants.{On, Abandoned, Done}}}, Table.{SessionData, turn}}
use Rattle.gx_session.specs.Happenings as happens

-- an event and its moment
pub record Timed : Type 0 where
  pub event : Happening
  pub moment : ℕ

-- the replies to events, in order
abbrev pub replies : SessionData → List Timed → List Reply
replies session [] = []
replies session (h ∷ hs) = (turn session h.event h.moment).reply ∷ replies (turn session h.event h.moment).session hs

-- a user is logged in
abbrev pub is_phase_on : Phase → Bool
is_phase_on On = true
is_phase_on other = false

abbrev pub is_over : Phase → Bool
is_over Abandoned = true
is_over Done = true
is_over other = false

abbrev pub is_login_next : Next → Bool
is_login_next Idle = false
is_login_next Login = true
is_login_next (Act request) = false
is_login_next Logout = false
is_login_next Close = false

abbrev pub is_logout_next : Next → Bool
is_logout_next Idle = false
is_logout_next Login = false
is_logout_next (Act request) = false
is_logout_next Logout = true
is_logout_next Close = false

abbrev pub asks_login : Reply → Bool
asks_login reply = is_login_next reply.next

abbrev pub asks_logout : Reply → Bool
asks_logout reply = is_logout_next reply.next

-- the login that a packet asks for, where the session wants it made
abbrev pub login_in : ClientPacket → Next → Option LoginRequest
login_in (ClientPacket.Login login) Login = Some login
login_in packet next = None

-- what it asks for is a step of a gate
abbrev pub asks_step : Next → Bool
asks_step Idle = false
asks_step Login = false
asks_step (Act request) = true
asks_step Logout = true
asks_step Close = false

-- a request that it asks for is one that a gate may be asked
abbrev pub CanAsk : Next → Type 0
CanAsk Idle = Unit {0}
CanAsk Login = Unit {0}
CanAsk (Act request) = IsTrue (has_its_first request)
CanAsk Logout = Unit {0}
CanAsk Close = Unit {0}

-- the session is over after it
abbrev pub is_last : Next → Bool
is_last Idle = false
is_last Login = false
is_last (Act request) = false
is_last Logout = true
is_last Close = true

-- idle, or the logout of a login that was accepted late
abbrev pub is_late : Next → Bool
is_late Idle = true
is_late Login = false
is_late (Act request) = false
is_late Logout = true
is_late Close = false

-- nothing is sent, and at most a logout is asked
abbrev pub is_parting : Reply → Bool
is_parting reply = is_none reply.send && is_late reply.next

-- nothing is sent, and no request or logout is asked
abbrev pub is_wordless : Reply → Bool
is_wordless reply = is_none reply.send && not (asks_step reply.next)

abbrev pub is_no_answer : Happening → Bool
is_no_answer (happens.Packet packet) = true
is_no_answer (happens.Answered answer) = false
is_no_answer (happens.Refused fault) = true
is_no_answer (happens.Pulled count ended) = true
is_no_answer happens.Tick = true
is_no_answer happens.Fault = true
is_no_answer happens.End = true

abbrev pub is_accepted : LoginAnswer → Bool
is_accepted (LoginAnswer.Accepted name next) = true
is_accepted (LoginAnswer.Rejected reason) = false

-- a login's answer is told, and it is Accepted
abbrev pub is_acceptance : Happening → Bool
is_acceptance (happens.Packet packet) = false
is_acceptance (happens.Answered answer) = is_accepted answer
is_acceptance (happens.Refused fault) = false
is_acceptance (happens.Pulled count ended) = false
is_acceptance happens.Tick = false
is_acceptance happens.Fault = false
is_acceptance happens.End = false
