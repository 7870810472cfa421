-- Once a packet is taken and the session goes on, no order waits.
use Rattle.std.proofs.Common.{◌≡◌, ℕ, ◌<◌, Bool, true, false, cond, List, [], ◌∷◌, ◌++◌, length, Option, None, Some, refl, ap, ◌∙◌, arith}
use Rattle.std.specs.{Prelude.{fold, IsFalse}, Option.option_map_or}
use Rattle.gx_units.specs.declared.names.UserName.{UserName}
use Rattle.gx_soup.specs.{declared.packet.{ClientPacket.ClientPacket}, Packets.packets_of}
use Rattle.gx_history.specs.{declared.record.{Asked.Asked, RecordData.RecordData, Step.Step}, InForce.is_closed, Settling.{most_matches, settled_records}, Verdicts.{next, IsLegal}}
use Rattle.gx_laws.proofs.{Runs_legal.step_left, Runs_orderly.{IsOrderly, legal_is_orderly, orderly_next}, Matches_end.{match_is_orderly, settled_keeps, settled_ends}}
use Rattle.gx_access_gate.specs.{Gates.GateData, Matches.{matching_of, settled_gate}, Asking.gate_after_step}
use Rattle.gx_connection.specs.{declared.connection.Connection.Connection, Transcript.{Run, opened_at, nothing_written, on_event, run_of_login, run_of_matching, run_of_sending, run_of_pull, connection_after_tick, run_on_packet, run_of}}
use Rattle.gx_session.specs.{declared.{session.Phase.{Phase, TheVariants.{On, Abandoned, Done}}}, Events.is_over, Table.turn}
use Rattle.gx_session.specs.Happenings as happens
use Rattle.gx_connection.proofs.Connection_keeps.{all_keep, handled_by, match_keeps, pull_keeps, row_keeps, taken}

-- Each step keeps the records orderly.

abbrev HasOrder : GateData → Type 0
HasOrder gate = IsOrderly gate.policy gate.records

stepped_has_order : (gate : GateData) (a : Asked) → HasOrder gate → HasOrder (gate_after_step gate a)
stepped_has_order gate a orderly = at (next gate.policy gate.records (Step.Asked a)) refl
  where
    at : (found : Option RecordData) → next gate.policy gate.records (Step.Asked a) ≡ found
        → IsOrderly gate.policy (option_map_or (λ (r : RecordData). gate.records ++ r ∷ []) found gate.records)
    at None e = orderly
    at (Some r) e =
        orderly_next r orderly (ap (next gate.policy gate.records) (step_left gate.policy gate.records (Step.Asked a) r e) ∙ e)

settled_has_order : (gate : GateData) (moment : ℕ) → HasOrder gate → HasOrder (settled_gate gate moment)
unfolding settled_records
settled_has_order gate moment orderly =
    settled_keeps gate.policy moment (λ (h : List RecordData). IsOrderly gate.policy h) (λ h r o e. match_is_orderly moment r o e) (most_matches gate.policy gate.records) gate.records orderly

-- What a pull that leaves the session alive leaves.

record GoesOn (gate : GateData) (c : Connection) (run : Run) : Type 0 where
  same_gate : run.gate ≡ gate
  alive : is_over c.session.phase ≡ false

after_reports : (gate : GateData) (heard spoke : ℕ) (user : UserName) (number coming moment count : ℕ) (closed : Bool)
    → let c : Connection = record { session = record { phase = On; heard = heard; sent = spoke }; user = user; next = number; coming = coming } in
    let run = on_event gate c (happens.Pulled count closed) moment in
    is_over run.connection.session.phase ≡ false → run.gate ≡ gate
unfolding on_event turn
after_reports gate heard spoke user number coming moment count true h = cc
after_reports gate heard spoke user number coming moment count false h = refl

after_pull : (gate : GateData) (phase : Phase) (heard spoke : ℕ) (user : UserName) (number coming moment : ℕ)
    → let c : Connection = record { session = record { phase = phase; heard = heard; sent = spoke }; user = user; next = number; coming = coming } in
    is_over (run_of_pull gate c moment).connection.session.phase ≡ false → GoesOn gate c (run_of_pull gate c moment)
unfolding run_of_pull run_of_sending
after_pull gate On heard spoke user number coming moment h =
    record { same_gate = after_reports gate heard spoke user _ coming moment _ (is_closed gate.records) h; alive = refl }
after_pull gate Abandoned heard spoke user number coming moment h = cc
after_pull gate Done heard spoke user number coming moment h = cc
after_pull gate phase heard spoke user number coming moment h = record { same_gate = refl; alive = refl }

-- after one packet: the records are orderly, and where the session goes on no order waits
record IsQuiet (run : Run) : Type 0 where
  has_order : HasOrder run.gate
  none_waits : is_over run.connection.session.phase ≡ false → matching_of run.gate ≡ None

none_once_matched : (gate : GateData) (c : Connection) (moment : ℕ) → HasOrder gate → is_over c.session.phase ≡ false → matching_of (run_of_matching gate c moment).gate ≡ None
unfolding run_of_matching
none_once_matched gate c moment orderly alive =
    ap (λ b. matching_of (cond b gate (settled_gate gate moment))) alive ∙ settled_ends moment orderly

quiet_pull : (gate : GateData) (c : Connection) (moment : ℕ) → HasOrder gate → IsQuiet (run_of_pull (run_of_matching gate c moment).gate c moment)
quiet_pull gate c moment orderly =
    let now = (run_of_matching gate c moment).gate in
    record {
      has_order = pull_keeps HasOrder stepped_has_order settled_has_order now c moment (match_keeps HasOrder stepped_has_order settled_has_order gate c moment orderly);
      none_waits = λ h.
          let k = after_pull now c.session.phase c.session.heard c.session.sent c.user c.next c.coming moment h in
          ap matching_of k.same_gate ∙ none_once_matched gate c moment orderly k.alive;
    }

quiet_taken : (gate : GateData) (c : Connection) (packet : ClientPacket) → HasOrder gate → IsQuiet (taken gate c packet)
unfolding run_of_matching
quiet_taken gate c packet orderly =
    let row = run_of_login gate (connection_after_tick c) packet c.coming in
    let q = quiet_pull row.gate row.connection c.coming (row_keeps HasOrder stepped_has_order settled_has_order gate (connection_after_tick c) packet c.coming orderly) in
    record { has_order = q.has_order; none_waits = q.none_waits }

quiet_next : (run : Run) (packet : ClientPacket) → HasOrder run.gate → IsQuiet (run_on_packet run packet)
quiet_next run packet orderly =
    let q = handled_by IsQuiet run.gate run.connection packet (λ over. record { has_order = orderly; none_waits = λ alive. cc }) (λ goes. quiet_taken run.gate run.connection packet orderly) in
    record { has_order = q.has_order; none_waits = q.none_waits }

none_waits_after : (gate : GateData) (c : Connection) (packets : List ClientPacket) → HasOrder gate → 0 < length packets → IsQuiet (fold run_on_packet (nothing_written gate c) packets)
none_waits_after gate c [] orderly some = absurd (omega arith)
none_waits_after gate c (packet ∷ packets) orderly some = all_keep IsQuiet (λ run p quiet. quiet_next run p quiet.has_order) packets (run_on_packet (nothing_written gate c) packet) (quiet_next (nothing_written gate c) packet orderly)

-- after one packet at least, where the session goes on, no order waits
pub none_waits : (gate : GateData) (first : ℕ) (bytes : List ℕ) → IsLegal gate.policy gate.records → 0 < length (packets_of bytes).packets
    → IsFalse (is_over (run_of gate first bytes).connection.session.phase) → matching_of (run_of gate first bytes).gate ≡ None
unfolding run_of
none_waits gate first bytes legal some alive =
    (none_waits_after gate (opened_at first) (packets_of bytes).packets (legal_is_orderly legal) some).none_waits alive
