-- The transcript of a connection: the gate and the text that all bytes of its input lead to, by the session table.
use Rattle.std.specs.{Prelude.{ℕ, ◌+◌, ◌-◌, ◌^◌, min, max, Bool, ◌||◌, if◌then◌else◌, is_some, Option, Some, None, List, [], ◌∷◌, ◌++◌, length, drop, fold}, Option.option_map_or}
use Rattle.gx_units.specs.{Spelling.folded_user, declared.names.UserName.UserName}
use Rattle.gx_soup.specs.{declared.packet.{LoginRequest.LoginRequest, ClientPacket.ClientPacket}, Packets.packets_of}
use Rattle.gx_history.specs.{declared.{«record».{Asked.Asked, Request.Request}, report.Report.Report}, InForce.is_closed, Streams.stream}
use Rattle.gx_access_gate.specs.{Gates.GateData, Matches.settled_gate, declared.outcome.LoginAnswer.LoginAnswer, Asking.{request_on_line_1, gate_after_step}}
use Rattle.gx_connection.specs.{declared.connection.Connection.Connection, Steps.{login_asked_at, login_told}}
use Rattle.gx_session.specs.{declared.event.Next.Next, Events.{is_phase_on, is_over, login_in}, Happenings.Happening, Sending.{control_text, reports_text}, Table.{SessionTurn, turn, new_session}}
use Rattle.gx_session.specs.Happenings as happens

-- a gate, a connection, and the text written so far
pub record Run : Type 0 where
  pub gate : GateData
  pub connection : Connection
  pub text : List ℕ

abbrev pub with_text : List ℕ → Run → Run
with_text before run = record { gate = run.gate; connection = run.connection; text = before ++ run.text }

abbrev pub run_at : GateData → Connection → List ℕ → Run
run_at gate connection text = record { gate = gate; connection = connection; text = text }

-- nothing is written
abbrev pub nothing_written : GateData → Connection → Run
nothing_written gate connection = run_at gate connection []

-- a run, and what follows where it stopped
abbrev pub and_then : Run → (GateData → Connection → Run) → Run
and_then run more = with_text run.text (more run.gate run.connection)

-- the step that the session asks for, if it asks for one
abbrev pub step_of : UserName → ℕ → Next → Option Asked
step_of user moment (Next.Act request) = Some (request_on_line_1 user request moment)
step_of user moment Next.Logout = Some (request_on_line_1 user Request.Logout moment)
step_of user moment other = None

-- the gate after this step, if there is one
abbrev pub gate_after_asked : GateData → Option Asked → GateData
gate_after_asked gate found = option_map_or (gate_after_step gate) found gate

-- the gate once the step that the session asks for is made
abbrev pub gate_after_act : GateData → UserName → ℕ → Next → GateData
gate_after_act gate user moment next = gate_after_asked gate (step_of user moment next)

abbrev pub by_turn : GateData → Connection → ℕ → SessionTurn → Run
by_turn gate connection moment t = record {
  gate = gate_after_act gate connection.user moment t.reply.next;
  connection = record connection { session = t.session };
  text = control_text t.reply.send;
}

-- the session is told of an event: the step that it asks for is made, and its packet is sent
unfoldable pub on_event : GateData → Connection → Happening → ℕ → Run
on_event gate connection event moment = by_turn gate connection moment (turn connection.session event moment)

-- the number of the first report that a login is sent
abbrev pub first_told : LoginAnswer → ℕ
first_told (LoginAnswer.Accepted name next) = next
first_told (LoginAnswer.Rejected reason) = 0

-- a login's step is made, and the session is told of its answer
unfoldable pub logged_in : GateData → Connection → LoginRequest → ℕ → Run
logged_in gate connection login moment =
    on_event (gate_after_step gate (login_asked_at gate moment login))
    (record connection { user = login.user; next = first_told (login_told gate moment login) })
    (happens.Answered (login_told gate moment login)) moment

abbrev pub with_login : GateData → Connection → ℕ → Option LoginRequest → Run
with_login gate connection moment (Some login) = logged_in gate connection login moment
with_login gate connection moment None = nothing_written gate connection

-- the session is told of a packet; where it asks for a login, that is made and answered
unfoldable pub run_of_login : GateData → Connection → ClientPacket → ℕ → Run
run_of_login gate connection packet moment =
    and_then (on_event gate connection (happens.Packet packet) moment) (λ g c.
    with_login g c moment (login_in packet (turn connection.session (happens.Packet packet) moment).reply.next))

-- matching steps until no order waits; none once the session is over
unfoldable pub run_of_matching : GateData → Connection → ℕ → Run
run_of_matching gate connection moment = nothing_written (if is_over connection.session.phase then gate else settled_gate gate moment) connection

-- reports are sent, and the next number is the one after them
abbrev pub reports_written : GateData → Connection → List Report → Run
reports_written gate connection reports =
    record { gate = gate; connection = record connection { next = max 1 connection.next + length reports }; text = reports_text reports }

-- and the session is told how many, and whether the day is closed
unfoldable pub run_of_sending : GateData → Connection → List Report → ℕ → Run
run_of_sending gate connection reports moment =
    and_then (reports_written gate connection reports) (λ g c.
    on_event g c (happens.Pulled (length reports) (is_closed g.records)) moment)

-- the user's stream from the next number on
abbrev pub unsent_reports : GateData → Connection → List Report
unsent_reports gate connection = drop (connection.next - 1) (stream gate.policy gate.records (folded_user connection.user))

-- where a user is logged in, all reports that are there are sent
unfoldable pub run_of_pull : GateData → Connection → ℕ → Run
run_of_pull gate connection moment =
    if is_phase_on connection.session.phase then run_of_sending gate connection (unsent_reports gate connection) moment else nothing_written gate connection

-- one moment later, as long as 64 bits hold it
abbrev pub later : ℕ → ℕ
later moment = min (moment + 1) (2 ^ 64 - 1)

abbrev pub connection_after_tick : Connection → Connection
connection_after_tick connection = record connection { coming = later connection.coming }

-- a packet at its moment: the session is told of it, orders are matched until none waits, and then reports are sent;
-- nothing once the session is over
unfoldable pub run_of_packet : GateData → Connection → ClientPacket → Run
run_of_packet gate connection packet =
    if is_over connection.session.phase then nothing_written gate connection
    else and_then (run_of_login gate (connection_after_tick connection) packet connection.coming) (λ g c.
    and_then (run_of_matching g c connection.coming) (λ g c. run_of_pull g c connection.coming))

abbrev pub run_on_packet : Run → ClientPacket → Run
run_on_packet run packet = and_then run (λ g c. run_of_packet g c packet)

-- a name of spaces, before a login
abbrev pub nobody : UserName
nobody = record { bytes = 32 ∷ 32 ∷ 32 ∷ 32 ∷ 32 ∷ 32 ∷ [] }

-- a new connection, whose first packet comes at this moment
abbrev pub opened_at : ℕ → Connection
opened_at first = record { session = new_session first; user = nobody; next = 0; coming = first }

abbrev pub run_opened : GateData → ℕ → Run
run_opened gate first = nothing_written gate (opened_at first)

-- after all packets of the bytes, each one moment later than the one before
unfoldable pub run_of : GateData → ℕ → List ℕ → Run
run_of gate first bytes = fold run_on_packet (run_opened gate first) (packets_of bytes).packets

-- at a fault of the input or at its end, at the last packet's moment, a user who is logged in is logged out
unfoldable pub run_to_its_end : Run → Run
run_to_its_end run = and_then run (λ g c. on_event g c happens.End c.session.heard)

-- what a connection makes of these bytes, all of its input
unfoldable pub pipe : GateData → ℕ → List ℕ → Run
pipe gate first bytes = run_to_its_end (run_of gate first bytes)

-- no further byte counts: a fault came, or the session is over
unfoldable pub is_ended : GateData → ℕ → List ℕ → Bool
is_ended gate first bytes = is_some (packets_of bytes).fault || is_over (run_of gate first bytes).connection.session.phase
