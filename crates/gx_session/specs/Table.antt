-- The session table: how far a session has come, what happens, and what follows, a row a line.
use Rattle.std.specs.Prelude.{ℕ, ◌-◌, max, min, nat_lt, nat_le, Bool, ◌||◌, if◌then◌else◌, Option, Some, None, is_some}
use Rattle.gx_soup.specs.declared.packet.ClientPacket.{ClientPacket}
use Rattle.gx_history.specs.Payloads.{request_of}
use Rattle.gx_access_gate.specs.declared.outcome.LoginAnswer.{LoginAnswer}
use Rattle.gx_session.specs.{declared.{event.{Control.Control, Sign.Sign, Next.{Next, TheVariants.{Idle, Login, Act, Logout, Close}}, Reply.Reply}, session.{Phase.{Phase, TheVariants.{Fresh, Waiting, On, Abandoned, Done}}, Row.Row}}, Happenings.Happening}
use Rattle.gx_session.specs.Happenings as happens

-- how far a session has come, and the moments of the last packets received and sent
pub record SessionData : Type 0 where
  pub phase : Phase
  pub heard : ℕ
  pub sent : ℕ

-- what an event makes of a session, and the reply
pub record SessionTurn : Type 0 where
  pub session : SessionData
  pub reply : Reply

abbrev pub new_session : ℕ → SessionData
new_session moment = record { phase = Fresh; heard = moment; sent = moment }

abbrev pub row : Phase → Option Control → Next → Row
row phase send next = record { phase = phase; reply = record { send = send; next = next } }

-- no login has come
abbrev pub fresh_packet : ClientPacket → Row
fresh_packet (ClientPacket.Login login) = row Waiting None Login
fresh_packet (ClientPacket.Data payload) = row Done None Close
fresh_packet ClientPacket.Logout = row Done None Close
fresh_packet ClientPacket.Heartbeat = row Fresh None Idle
fresh_packet ClientPacket.Debug = row Fresh None Idle

abbrev pub fresh_row : Happening → Bool → Row
fresh_row (happens.Packet packet) silent = fresh_packet packet
fresh_row (happens.Answered answer) silent = row Fresh None Idle
fresh_row (happens.Refused fault) silent = row Done None Close
fresh_row (happens.Pulled count ended) silent = row Fresh None Idle
fresh_row happens.Tick silent = if silent then row Done None Close else row Fresh None Idle
fresh_row happens.Fault silent = row Done None Close
fresh_row happens.End silent = row Done None Close

-- a login has come, and its answer has not
abbrev pub waiting_row : Happening → Bool → Row
waiting_row (happens.Packet packet) silent = row Waiting None Idle
waiting_row (happens.Answered (LoginAnswer.Accepted name next)) silent = row On (Some (Control.Answer (LoginAnswer.Accepted name next))) Idle
waiting_row (happens.Answered (LoginAnswer.Rejected reason)) silent = row Done (Some (Control.Answer (LoginAnswer.Rejected reason))) Close
waiting_row (happens.Refused fault) silent = row Abandoned None Close
waiting_row (happens.Pulled count ended) silent = row Waiting None Idle
waiting_row happens.Tick silent = if silent then row Abandoned None Close else row Waiting None Idle
waiting_row happens.Fault silent = row Abandoned None Close
waiting_row happens.End silent = row Abandoned None Close

-- a user is logged in: a payload is one request, and a second login ends the session
abbrev pub on_packet : ClientPacket → Row
on_packet (ClientPacket.Login login) = row Done None Logout
on_packet (ClientPacket.Data payload) = row On None (Act (request_of payload))
on_packet ClientPacket.Logout = row Done None Logout
on_packet ClientPacket.Heartbeat = row On None Idle
on_packet ClientPacket.Debug = row On None Idle

abbrev pub on_row : Happening → Bool → Bool → Row
on_row (happens.Packet packet) silent quiet = on_packet packet
on_row (happens.Answered answer) silent quiet = row On None Idle
on_row (happens.Refused fault) silent quiet = row Done None Logout
on_row (happens.Pulled count ended) silent quiet = if ended then row Done (Some (Control.Sign Sign.EndOfSession)) Logout else row On None Idle
on_row happens.Tick silent quiet = if silent then row Done None Logout else (if quiet then row On (Some (Control.Sign Sign.Heartbeat)) Idle else row On None Idle)
on_row happens.Fault silent quiet = row Done None Logout
on_row happens.End silent quiet = row Done None Logout

-- the session is over, and the answer to its login has not come
abbrev pub abandoned_row : Happening → Row
abandoned_row (happens.Answered (LoginAnswer.Accepted name next)) = row Done None Logout
abandoned_row (happens.Answered (LoginAnswer.Rejected reason)) = row Done None Idle
abandoned_row other = row Abandoned None Idle

abbrev pub row_in : Phase → Happening → Bool → Bool → Row
row_in Fresh event silent quiet = fresh_row event silent
row_in Waiting event silent quiet = waiting_row event silent
row_in On event silent quiet = on_row event silent quiet
row_in Abandoned event silent quiet = abandoned_row event
row_in Done event silent quiet = row Done None Idle

-- 15 seconds have gone by without a packet from the client; a moment before that packet's is no time
abbrev pub is_silent : SessionData → ℕ → Bool
is_silent session moment = nat_le 15000000000 (moment - session.heard)

-- as is said of silence, and so of a second without a packet to him
abbrev pub row_at : SessionData → Happening → ℕ → Row
row_at session event moment =
    row_in session.phase event (is_silent session moment) (nat_le 1000000000 (moment - session.sent))

-- a packet goes to the client: the session's own, or reports of a user who is on
abbrev pub is_sending : Phase → Happening → Option Control → Bool
is_sending On (happens.Pulled count ended) send = nat_lt 0 count || is_some send
is_sending phase event send = is_some send

-- the moment of the last packet received
abbrev pub heard_after : SessionData → Happening → ℕ → ℕ
heard_after session (happens.Packet packet) moment = max session.heard moment
heard_after session other moment = session.heard

-- the moment of the last packet sent
abbrev pub sent_after : SessionData → Happening → ℕ → Option Control → ℕ
sent_after session event moment send = if is_sending session.phase event send then max session.sent moment else session.sent

abbrev pub session_turn : SessionData → Happening → ℕ → Row → SessionTurn
session_turn session event moment row = record {
  session = record { phase = row.phase; heard = heard_after session event moment; sent = sent_after session event moment row.reply.send };
  reply = row.reply;
}

-- so long it is from this moment until the time alone asks for something of a user who is on: a heartbeat, or his logout
abbrev pub rest_of : SessionData → ℕ → ℕ
rest_of session moment = min (15000000000 - (moment - session.heard)) (1000000000 - (moment - session.sent))

-- what the event at this moment makes of the session, and what follows
unfoldable pub turn : SessionData → Happening → ℕ → SessionTurn
turn session event moment = session_turn session event moment (row_at session event moment)
