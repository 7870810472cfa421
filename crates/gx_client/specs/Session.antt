-- A client's session, by the packets that it has heard.
use Rattle.std.specs.{Prelude.{◌≡◌, ℕ, ◌+◌, min, nat_lt, if◌then◌else◌, Bool, true, false, List, [], ◌∷◌}, List.list_any}
use Rattle.gx_soup.specs.{declared.packet.{LoginRequest.LoginRequest, ServerPacket.{ServerPacket, TheVariants.{Accepted, Rejected, Sequenced, Heartbeat, EndOfSession}}}, Login.greatest}
use Rattle.gx_client.specs.declared.heard.{Stage.{Stage, TheVariants.{LoggingIn, On, Over}}, Heard.Heard}

abbrev pub is_end : ServerPacket → Bool
is_end (Accepted session next) = false
is_end (Rejected why) = false
is_end (Sequenced payload) = false
is_end Heartbeat = false
is_end EndOfSession = true

-- how many reports come before the session's end
abbrev pub reports_in : List ServerPacket → ℕ
reports_in [] = 0
reports_in (Accepted session next ∷ more) = reports_in more
reports_in (Rejected why ∷ more) = reports_in more
reports_in (Sequenced payload ∷ more) = reports_in more + 1
reports_in (Heartbeat ∷ more) = reports_in more
reports_in (EndOfSession ∷ more) = 0

-- a session logs in until the first answer to its login, and is on until its end
abbrev pub stage_of : List ServerPacket → Stage
stage_of [] = LoggingIn
stage_of (Accepted session next ∷ more) = if list_any is_end more then Over else On
stage_of (Rejected why ∷ more) = Over
stage_of (Sequenced payload ∷ more) = stage_of more
stage_of (Heartbeat ∷ more) = stage_of more
stage_of (EndOfSession ∷ more) = Over

-- the number of the next report: what was asked for, until a Login Accepted tells it; from then on it grows by each report,
-- up to the greatest number of 64 bits
abbrev pub next_of : ℕ → List ServerPacket → ℕ
next_of wanted [] = wanted
next_of wanted (Accepted session next ∷ more) = min (next + reports_in more) greatest
next_of wanted (Rejected why ∷ more) = wanted
next_of wanted (Sequenced payload ∷ more) = next_of wanted more
next_of wanted (Heartbeat ∷ more) = next_of wanted more
next_of wanted (EndOfSession ∷ more) = wanted

-- what a packet is to a session at this stage, whose next report has this number; the greatest number is no report's
abbrev pub heard_as : Stage → ℕ → ServerPacket → Heard
heard_as LoggingIn next (Accepted session first) = Heard.LoggedIn session first
heard_as LoggingIn next (Rejected why) = Heard.Refused why
heard_as LoggingIn next (Sequenced payload) = Heard.Unexpected
heard_as LoggingIn next Heartbeat = Heard.Heartbeat
heard_as LoggingIn next EndOfSession = Heard.Ended
heard_as On next (Accepted session first) = Heard.Unexpected
heard_as On next (Rejected why) = Heard.Unexpected
heard_as On next (Sequenced payload) = if nat_lt next greatest then Heard.Report next else Heard.Unexpected
heard_as On next Heartbeat = Heard.Heartbeat
heard_as On next EndOfSession = Heard.Ended
heard_as Over next packet = Heard.Unexpected

-- what a packet is to a session that asked for the report `wanted` and has heard these packets
abbrev pub heard_after : ℕ → List ServerPacket → ServerPacket → Heard
heard_after wanted packets packet = heard_as (stage_of packets) (next_of wanted packets) packet

-- what a session shows: its login, its stage, and the number of its next report
pub record SessionView : Type 0 where
  pub login : LoginRequest
  pub stage : Stage
  pub next : ℕ

-- a session that began with this login has heard these packets
pub record HasHeard (session : SessionView) (asked : LoginRequest) (packets : List ServerPacket) : Type 0 where
  pub login : session.login ≡ asked
  pub stage : session.stage ≡ stage_of packets
  pub next : session.next ≡ next_of asked.wanted packets

-- a session to which this was said
abbrev pub standing_after : SessionView → Heard → SessionView
standing_after session (Heard.LoggedIn name first) = record session { stage = On; next = min first greatest }
standing_after session (Heard.Refused why) = record session { stage = Over }
standing_after session (Heard.Report number) = record session { next = min (number + 1) greatest }
standing_after session Heard.Heartbeat = session
standing_after session Heard.Ended = record session { stage = Over }
standing_after session Heard.Unexpected = session
