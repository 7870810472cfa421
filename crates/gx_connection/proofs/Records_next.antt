-- Records are put behind those that are there.
use Rattle.std.proofs.Common.{◌≡◌, ℕ, true, false, cond, [], ◌∷◌, ◌++◌, Option, refl, ap}
use Rattle.std.specs.Option.{option_map_or}
use Rattle.gx_units.specs.declared.names.UserName.{UserName}
use Rattle.gx_soup.specs.declared.packet.{LoginRequest.LoginRequest, ClientPacket.ClientPacket}
use Rattle.gx_history.specs.declared.record.{Asked.Asked, RecordData.RecordData}
use Rattle.gx_laws.proofs.Matches_end.{settled_adds}
use Rattle.gx_devices.specs.Stopping.{AreFewer, AreFirst}
use Rattle.gx_devices.proofs.Run_stopped.{first_same, first_then, fewer_then}
use Rattle.gx_access_gate.specs.{Gates.GateData, Asking.gate_after_step, Matches.settled_gate}
use Rattle.gx_connection.specs.{declared.connection.Connection.Connection, Steps.login_asked_at, Transcript.{Run, gate_after_act, on_event, logged_in, run_of_login, run_of_matching, run_to_its_end}}
use Rattle.gx_session.specs.{declared.event.Next.Next, Events.{asks_step, is_over}, Happenings.Happening, Table.turn}
use Rattle.gx_session.specs.Happenings as happens
use Rattle.gx_connection.proofs.{Connection_keeps.{answer_keeps, event_keeps, match_keeps, row_keeps}, Sent_next.{left_of, left_is}}

abbrev GoesOn : GateData → GateData → Type 0
GoesOn before now = AreFirst before.records now.records

here : (gate : GateData) → GoesOn gate gate
here gate = first_same gate.records gate.records refl

further : (a b c : GateData) → GoesOn a b → GoesOn b c → GoesOn a c
further a b c h k = first_then a.records b.records c.records h k

step_on : (gate : GateData) (a : Asked) → GoesOn gate (gate_after_step gate a)
step_on gate a = record { others = left_of gate a ∷ []; whole = ap (λ (found : Option RecordData). option_map_or (λ (r : RecordData). gate.records ++ r ∷ []) found gate.records) (left_is gate a) }

-- and one at least
step_adds : (gate : GateData) (a : Asked) → AreFewer gate.records (gate_after_step gate a).records
step_adds gate a = record { next = left_of gate a; others = []; whole = ap (λ (found : Option RecordData). option_map_or (λ (r : RecordData). gate.records ++ r ∷ []) found gate.records) (left_is gate a) }

settle_on : (gate : GateData) (moment : ℕ) → GoesOn gate (settled_gate gate moment)
settle_on gate moment = let adds = settled_adds gate.policy gate.records moment in record { others = adds.more; whole = adds.goes_on }

on_step : (first gate : GateData) (a : Asked) → GoesOn first gate → GoesOn first (gate_after_step gate a)
on_step first gate a h = further first gate (gate_after_step gate a) h (step_on gate a)

on_settle : (first gate : GateData) (moment : ℕ) → GoesOn first gate → GoesOn first (settled_gate gate moment)
on_settle first gate moment h = further first gate (settled_gate gate moment) h (settle_on gate moment)

act_adds : (gate : GateData) (user : UserName) (moment : ℕ) (next : Next) → asks_step next ≡ true → AreFewer gate.records (gate_after_act gate user moment next).records
act_adds gate user moment (Next.Act request) h = step_adds gate _
act_adds gate user moment Next.Logout h = step_adds gate _
act_adds gate user moment next h = cc

pub event_adds : (gate : GateData) (c : Connection) (e : Happening) (moment : ℕ) → asks_step (turn c.session e moment).reply.next ≡ true → AreFewer gate.records (on_event gate c e moment).gate.records
unfolding on_event
event_adds gate c e moment h = act_adds gate c.user moment (turn c.session e moment).reply.next h

pub event_on : (gate : GateData) (c : Connection) (e : Happening) (moment : ℕ) → GoesOn gate (on_event gate c e moment).gate
event_on gate c e moment = event_keeps (GoesOn gate) (on_step gate) (on_settle gate) gate c e moment (here gate)

pub login_adds : (gate : GateData) (c : Connection) (moment : ℕ) (login : LoginRequest) → AreFewer gate.records (logged_in gate c login moment).gate.records
unfolding logged_in
login_adds gate c moment login =
    let then = gate_after_step gate (login_asked_at gate moment login) in
    fewer_then gate.records then.records (logged_in gate c login moment).gate.records (step_adds gate (login_asked_at gate moment login)) (event_on then _ _ moment)

pub answer_on : (gate : GateData) (c : Connection) (packet : ClientPacket) (moment : ℕ) → GoesOn (on_event gate c (happens.Packet packet) moment).gate (run_of_login gate c packet moment).gate
answer_on gate c packet moment = let told = (on_event gate c (happens.Packet packet) moment).gate in answer_keeps (GoesOn told) (on_step told) (on_settle told) gate c packet moment (here told)

pub row_on : (gate : GateData) (c : Connection) (packet : ClientPacket) (moment : ℕ) → GoesOn gate (run_of_login gate c packet moment).gate
row_on gate c packet moment = row_keeps (GoesOn gate) (on_step gate) (on_settle gate) gate c packet moment (here gate)

pub match_on : (gate : GateData) (c : Connection) (moment : ℕ) → GoesOn gate (run_of_matching gate c moment).gate
match_on gate c moment = match_keeps (GoesOn gate) (on_step gate) (on_settle gate) gate c moment (here gate)

pub finish_on : (run : Run) → GoesOn run.gate (run_to_its_end run).gate
unfolding run_to_its_end
finish_on run = event_on run.gate run.connection happens.End run.connection.session.heard

pub match_going : (gate : GateData) (c : Connection) (moment : ℕ) → is_over c.session.phase ≡ false → (run_of_matching gate c moment).gate ≡ settled_gate gate moment
unfolding run_of_matching
match_going gate c moment h = ap (λ b. cond b gate (settled_gate gate moment)) h
