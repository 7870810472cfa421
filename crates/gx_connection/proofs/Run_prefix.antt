-- What a run leaves that a fault stopped is a front of what the whole input leads to.
use Rattle.std.proofs.{Common.{◌≡◌, ℕ, Bool, true, false, cond, List, [], ◌∷◌, ◌++◌, Option, Some, None, IfSome, refl, sym, ap, ◌∙◌, subst, append-nil}, lemmas.List.Sums.fold-append}
use Rattle.std.specs.{Prelude.fold, Option.option_map_or}
use Rattle.gx_soup.specs.Packets.{packets_of}
use Rattle.gx_soup.proofs.Packets_laws.{packets_grow}
use Rattle.gx_history.specs.declared.record.{Asked.Asked, RecordData.RecordData, Request.Request}
use Rattle.gx_devices.specs.{Devices.IsFront, Pieces.Flow}
use Rattle.gx_devices.specs.Stopping as First
use Rattle.gx_devices.proofs.Run_stopped.{Leads, first_same, items_lead, leads_then}
use Rattle.gx_devices.proofs.Run_pieces as pieces
use Rattle.gx_access_gate.specs.{Gates.GateData, Asking.request_on_line_1}
use Rattle.gx_connection.specs.{declared.{connection.Connection.Connection, fault.PipeFault.PipeFault}, Fronts.AreFirstWithLogout, Piping.{mark, gate_at, cause_of, Refused, packet_marks, logout_of, IsRunThere, way, ArePackets, IsAfterFault}, Serving.IsOnLine, Transcript.{Run, gate_after_asked, run_on_packet, run_opened, run_of, run_to_its_end, pipe}}
use Rattle.gx_session.specs.Events.{is_phase_on}
use Rattle.gx_connection.proofs.{Records_next.finish_on, Run_logout.line_there, Packet_marks.{packet_ends, packet_rises}, Line_kept.logout_is_granted, Run_next.finished_text, Sent_next.{left_of, left_is}}

abbrev leaving : Connection → Asked
leaving c = request_on_line_1 c.user Request.Logout c.session.heard

-- with the logout of a user who is on behind them
logged_out_first : (after gate end : GateData) (c : Connection) → IsOnLine gate c → after ≡ gate_after_asked gate (logout_of c) → First.AreFirst gate.records end.records → AreFirstWithLogout after.records end.records
unfolding left_of
logged_out_first after gate end c line out_of way = at (is_phase_on c.session.phase) refl
  where
    out : (b : Bool) → is_phase_on c.session.phase ≡ b → logout_of c ≡ cond b (Some (leaving c)) None
    out b e = ap (λ x. cond x (Some (leaving c)) None) e

    at : (b : Bool) → is_phase_on c.session.phase ≡ b → AreFirstWithLogout after.records end.records
    at true on = record {
      first = gate.records;
      others = way.others;
      whole = way.whole;
      last = left_of gate (leaving c) ∷ [];
      stand =
          ap (λ (g : GateData). g.records) (out_of ∙ ap (gate_after_asked gate) (out true on))
          ∙ ap (λ (found : Option RecordData). option_map_or (λ (r : RecordData). gate.records ++ r ∷ []) found gate.records) (left_is gate (leaving c));
      logout = record {
        asked = leaving c;
        is_asked = refl;
        is_logout = refl;
        is_granted = logout_is_granted gate.policy gate.records c.user c.session.heard (line on);
      };
    }
    at false off = record {
      first = gate.records;
      others = way.others;
      whole = way.whole;
      last = [];
      stand = ap (λ (g : GateData). g.records) (out_of ∙ ap (gate_after_asked gate) (out false off)) ∙ sym (append-nil gate.records);
      logout = tt;
    }

module _ (flow : Flow) (before : GateData) (first : ℕ) (after : GateData) (fault : PipeFault) (f : IsAfterFault flow before first after fault) where
  -- the packets that were next are packets of the whole input
  leads : (rest : List ℕ) → flow.left ≡ Some rest → Leads (mark (fold run_on_packet (run_of before first f.cut.bytes) f.cut.broken.items)) (mark (pipe before first ((f.cut.bytes ++ f.cut.piece) ++ rest)))
  unfolding pipe run_of
  leads rest is =
      let bytes = f.cut.bytes ++ f.cut.piece in
      let there = run_of before first bytes in
      let all = run_of before first (bytes ++ rest) in
      let g = packets_grow bytes rest in
      let reached : there ≡ fold run_on_packet (run_of before first f.cut.bytes) f.cut.broken.items =
      ap (fold run_on_packet (run_opened before first)) f.cut.broken.are_next ∙ fold-append run_on_packet (run_opened before first) (packets_of f.cut.bytes).packets f.cut.broken.items in
      let more : all ≡ fold run_on_packet there g.0 = ap (fold run_on_packet (run_opened before first)) g.1 ∙ fold-append run_on_packet (run_opened before first) (packets_of bytes).packets g.0 in
      subst (λ (r : Run). Leads (mark r) (mark (run_to_its_end all))) reached
      (leads_then (mark there) (mark all) (mark (run_to_its_end all)) (subst (λ (r : Run). Leads (mark there) (mark r)) (sym more) (items_lead mark packet_marks run_on_packet packet_ends packet_rises g.0 there))
      (record { records = finish_on all; text = first_same all.text (run_to_its_end all).text (sym (finished_text all)) }))

  pub text_is_front : IfSome flow.input (λ all. IsFront flow.output flow.written (pipe before first all).text)
  text_is_front = pieces.text_is_front (way before first) packet_ends packet_rises Refused (IsRunThere f.now f.state) ArePackets (cause_of fault) flow f.cut (λ bytes. mark (pipe before first bytes)) leads

  pub records_are_first : IfSome flow.input (λ all. AreFirstWithLogout after.records (pipe before first all).gate.records)
  records_are_first =
      let cut = f.cut.broken.cut in
      if_some flow.input _ _ (λ all h. logged_out_first after (gate_at cut.stop) (pipe before first all).gate cut.stop.known.connection (line_there flow before first fault f.now f.state f.cut)
      (f.logged_out ∙ ap (λ g. gate_after_asked g (logout_of f.state)) cut.there.gate ∙ ap (gate_after_asked (gate_at cut.stop)) cut.there.logout) h)
      (pieces.records_are_first (way before first) packet_ends packet_rises Refused (IsRunThere f.now f.state) ArePackets (cause_of fault) flow f.cut (λ bytes. mark (pipe before first bytes)) leads)
    where
      if_some : (o : Option (List ℕ)) (P Q : List ℕ → Type 0) → ((x : List ℕ) → P x → Q x) → IfSome o P → IfSome o Q
      if_some None P Q h p = tt
      if_some (Some x) P Q h p = h x p
