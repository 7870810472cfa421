-- What a connection did to a reader, a writer and a gate.
use Rattle.std.specs.{Option.option_map_or, Prelude.{◌≡◌, ℕ, ◌+◌, ◌<◌, ◌≤◌, max, Bool, false, ◌⊎◌, if◌then◌else◌, IsTrue, IsFalse, is_some, List, [], ◌∷◌, ◌++◌, length, Option, Some, None}, Io.KnownBytes.Appends}
use Rattle.gx_soup.specs.{declared.packet.ClientPacket.ClientPacket, Packets.packets_of, Feeding.{Held, HasRead}}
use Rattle.gx_history.specs.{InForce.is_closed, Verdicts.day_limit, declared.{report.Report.Report, «record».{Asked.Asked, RecordData.RecordData, Request.Request}}}
use Rattle.gx_policy.specs.declared.policy.PolicyData.{PolicyData}
use Rattle.gx_access_gate.specs.{Gates.GateData, Matches.{settled_gate, IsSettling}, Steps.never_refuses, Asking.request_on_line_1}
use Rattle.gx_devices.specs.{Devices.IsFront, Pieces.{Flow, Way, TakesPiece, IsBroken, IsWhole, IsWholeOfAll}, Stopping.{AreFewer, Cause, Memory, Full, Writing, Reading, IsOfSending, Mark}}
use Rattle.gx_devices.specs.Pieces as pieces
use Rattle.gx_connection.specs.{declared.{connection.Connection.Connection, fault.PipeFault.PipeFault}, Serving.IsOnLine, Transcript.{Run, gate_after_asked, and_then, unsent_reports, connection_after_tick, on_event, run_of_login, run_of_matching, reports_written, run_on_packet, run_of, pipe, is_ended}}
use Rattle.gx_session.specs.{Events.{asks_step, is_phase_on, is_over}, Happenings.Happening, Table.turn}
use Rattle.gx_session.specs.Happenings as happens

-- the logout of the user who is logged in, at the moment of the last packet heard
abbrev pub logout_of : Connection → Option Asked
logout_of connection =
    if is_phase_on connection.session.phase then Some (request_on_line_1 connection.user Request.Logout connection.session.heard) else None

-- a granted Kill or Logout, which no gate refuses
abbrev pub is_never_refused_in : GateData → Option Asked → Bool
is_never_refused_in gate found = option_map_or (never_refuses gate) found false

-- beside its records and its text, what is known where a run stands
pub record RunState : Type 0 where
  pub policy : PolicyData
  pub connection : Connection

abbrev pub mark : Run → Mark RecordData RunState
mark run = record { records = run.gate.records; text = run.text; known = record { policy = run.gate.policy; connection = run.connection } }

-- the gate there
abbrev pub gate_at : Mark RecordData RunState → GateData
gate_at m = record { policy = m.known.policy; records = m.records }

-- why a run stops
abbrev pub cause_of : PipeFault → Cause
cause_of PipeFault.OutOfMemory = Memory
cause_of PipeFault.ReadFailed = Reading
cause_of PipeFault.WriteFailed = Writing
cause_of PipeFault.DayFull = Full
cause_of PipeFault.Endless = Reading

-- a step is refused where the day is full, or where it is not and a growth was refused
abbrev pub Refused : Cause → List RecordData → Type 0
Refused Memory records = length records < day_limit
Refused Full records = day_limit ≤ length records
Refused other records = ⊥

-- the gate and the connection stand where the run ends
pub record IsRunOf (run : Run) (now : GateData) (state : Connection) : Type 0 where
  pub gate : now ≡ run.gate
  pub connection : state ≡ run.connection

-- the run was made, and its text written
pub record IsTaken (run : Run) (now : GateData) (state : Connection) (output left : Option (List ℕ)) : Type 0 where
  pub gate : now ≡ run.gate
  pub connection : state ≡ run.connection
  pub text : Appends output left run.text

-- no step was made, and nothing written
pub record IsUndone (gate : GateData) (connection : Connection) (fault : PipeFault) (now : GateData) (state : Connection) (output left : Option (List ℕ)) : Type 0 where
  pub gate_is : now ≡ gate
  pub logout : logout_of state ≡ logout_of connection
  pub cause : Refused (cause_of fault) gate.records
  pub written : Appends output left []

-- the run's steps were made, and a front of its text written
pub record IsUnwritten (run : Run) (fault : PipeFault) (now : GateData) (state : Connection) (output left : Option (List ℕ)) : Type 0 where
  pub gate : now ≡ run.gate
  pub logout : logout_of state ≡ logout_of run.connection
  pub text : IsFront output left run.text
  pub sending : IsOfSending (cause_of fault) (text.front ≡ [])

-- a run was given up before its step, or behind it
abbrev pub IsGivenUp : GateData → Connection → Run → PipeFault → GateData → Connection → Option (List ℕ) → Option (List ℕ) → Type 0
IsGivenUp gate connection run fault now state output left =
    (AreFewer gate.records run.gate.records × IsUndone gate connection fault now state output left) ⊎ IsUnwritten run fault now state output left

-- an event was given up: the step that the session asked for was refused, or its packet not sent
abbrev pub IsTurnGivenUp : GateData → Connection → Happening → ℕ → PipeFault → GateData → Connection → Option (List ℕ) → Option (List ℕ) → Type 0
IsTurnGivenUp gate connection event moment fault now state output left =
    (IsTrue (asks_step (turn connection.session event moment).reply.next) × IsUndone gate connection fault now state output left)
    ⊎ (IsTrue (is_some (turn connection.session event moment).reply.send) × IsUnwritten (on_event gate connection event moment) fault now state output left)

-- some of the matching steps of this moment were made, and the next one, for an order that waits, was refused
pub record IsMatchedInPart (gate : GateData) (connection : Connection) (moment : ℕ) (fault : PipeFault) (now : GateData) : Type 0 where
  pub goes_on : IsFalse (is_over connection.session.phase)
  pub matches : IsSettling gate moment now
  pub left : AreFewer now.records (settled_gate gate moment).records
  pub cause : Refused (cause_of fault) now.records

-- a pull gives all that is there: the reports, the number behind them, and whether the day is closed
pub record GivesAll (gate : GateData) (c : Connection) (reports : List Report) (next : ℕ) (ended : Bool) : Type 0 where
  pub reports_are : reports ≡ unsent_reports gate c
  pub next_is : next ≡ max 1 c.next + length reports
  pub ended_is : ended ≡ is_closed gate.records

-- the input has a fault or is at its end, or a step was refused
abbrev pub IsLeaving : Happening → Type 0
IsLeaving (happens.Refused fault) = Unit {0}
IsLeaving happens.Fault = Unit {0}
IsLeaving happens.End = Unit {0}
IsLeaving other = ⊥

-- where the run stands once the next packet is answered
abbrev pub row_of : Run → ClientPacket → Run
row_of run packet = and_then run (λ g c. run_of_login g (connection_after_tick c) packet c.coming)

-- and once the matching steps that follow are made
abbrev pub matched_of : Run → ℕ → Run
matched_of run moment = record run { gate = (run_of_matching run.gate run.connection moment).gate }

-- and once the reports are sent
abbrev pub reported_of : Run → Run
reported_of run = and_then run (λ g c. reports_written g c (unsent_reports g c))

-- and once the session is told of these
abbrev pub pulled_of : Run → ℕ → ℕ → Run
pulled_of run count moment = and_then run (λ g c. on_event g c (happens.Pulled count (is_closed g.records)) moment)

-- the marks of a pull, where a user is logged in
abbrev pub pull_marks : Run → ℕ → List (Mark RecordData RunState)
pull_marks run moment =
    if is_phase_on run.connection.session.phase
    then mark (reported_of run) ∷ mark (pulled_of (reported_of run) (length (unsent_reports run.gate run.connection)) moment) ∷ [] else []

-- the marks of a packet; none once the session is over
abbrev pub packet_marks : Run → ClientPacket → List (Mark RecordData RunState)
packet_marks run packet =
    if is_over run.connection.session.phase then []
    else
    (let row = row_of run packet in
    let met = matched_of row run.connection.coming in
    mark row ∷ mark met ∷ pull_marks met run.connection.coming)

-- Where a run stopped, as the gate and the connection show it. A user who is on is on line 1, so that his Logout is granted.
pub record IsRunThere (now : GateData) (state : Connection) (run : Run) (stop : Mark RecordData RunState) : Type 0 where
  pub gate : now ≡ gate_at stop
  pub logout : logout_of state ≡ logout_of stop.known.connection
  pub line : IsOnLine run.gate run.connection → IsOnLine (gate_at stop) stop.known.connection

-- a fault stopped the run on the way through these marks
abbrev pub PipeStopsIn : Run → List (Mark RecordData RunState) → PipeFault → GateData → Connection → (output left : Option (List ℕ)) → Type 0
PipeStopsIn run marks fault now state output left = pieces.StopsIn Refused (IsRunThere now state run) (cause_of fault) (mark run) marks output left

-- the way of a connection through its packets
abbrev pub way : GateData → ℕ → Way Run ClientPacket RecordData RunState
way before first = record { mark = mark; marks = packet_marks; next = run_on_packet; so_far = run_of before first }

-- after these bytes: what the feeder keeps, the gate and the connection
pub record IsRunAfter (before : GateData) (first : ℕ) (now : GateData) (state : Connection) (feeder : Held) (bytes : List ℕ) : Type 0 where
  pub reads : HasRead feeder bytes
  pub gate : now ≡ (run_of before first bytes).gate
  pub connection : state ≡ (run_of before first bytes).connection

-- a piece was read and answered; no further byte counts where it is over
pub record Exchanged (before : GateData) (first : ℕ) (bytes piece : List ℕ) (over : Bool) (now : GateData) (state : Connection) (feeder : Held) (output left : Option (List ℕ)) : Type 0 where
  pub takes : TakesPiece (way before first) (IsRunAfter before first now state feeder) bytes piece output left
  pub ends : over ≡ is_ended before first (bytes ++ piece)

-- of the bytes read, the gate and the bytes written are the pipe's; the bytes read are all, or no further one counts
abbrev pub IsTranscript : Flow → (before : GateData) (first : ℕ) (after : GateData) → Type 0
IsTranscript flow before first after = IsWhole (λ bytes. mark (pipe before first bytes)) (is_ended before first) (λ m. after ≡ gate_at m) flow

-- where the reader tells its bytes: the gate and the bytes written are the pipe's of all of them
abbrev pub IsPipe : Flow → (before : GateData) (first : ℕ) (after : GateData) → Type 0
IsPipe flow before first after = IsWholeOfAll (λ bytes. mark (pipe before first bytes)) (λ m. after ≡ gate_at m) flow

-- the packets that end in a piece
abbrev pub ArePackets : (bytes piece : List ℕ) → List ClientPacket → Type 0
ArePackets bytes piece packets = (packets_of (bytes ++ piece)).packets ≡ (packets_of bytes).packets ++ packets

-- of the packets that end in a piece, one was cut short
abbrev pub Broken : GateData → ℕ → (bytes piece : List ℕ) → PipeFault → GateData → Connection → (output left : Option (List ℕ)) → Type 0
Broken before first bytes piece fault now state output left = IsBroken (way before first) Refused (IsRunThere now state) ArePackets (cause_of fault) bytes piece output left

-- the packets of what was read before the last piece were answered whole; among the packets of that piece the run stopped
abbrev pub IsPipeCutShort : Flow → (before : GateData) (first : ℕ) → PipeFault → GateData → Connection → Type 0
IsPipeCutShort flow before first fault now state = pieces.IsCutShort (way before first) Refused (IsRunThere now state) ArePackets (cause_of fault) flow

-- After a fault: where the run stopped, and the gate with the logout of the user who was logged in there.
pub record IsAfterFault (flow : Flow) (before : GateData) (first : ℕ) (after : GateData) (fault : PipeFault) : Type 0 where
  pub now : GateData
  pub state : Connection
  pub cut : IsPipeCutShort flow before first fault now state
  pub logged_out : after ≡ gate_after_asked now (logout_of state)
