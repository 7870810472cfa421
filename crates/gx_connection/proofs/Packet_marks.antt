-- The marks of a packet, and where they lead.
use Rattle.std.proofs.Common.{◌≡◌, ℕ, Bool, true, false, cond, [], ◌∷◌, length, refl, sym, ap, ◌∙◌, append_assoc, append-nil}
use Rattle.gx_soup.specs.declared.packet.ClientPacket.{ClientPacket}
use Rattle.gx_devices.proofs.Run_stopped.{Rises, first_same, last_of}
use Rattle.gx_session.specs.{Events.{is_phase_on, is_over}, Sending.reports_text}
use Rattle.gx_connection.specs.{Piping.{mark, row_of, matched_of, reported_of, pulled_of, pull_marks, packet_marks}, Transcript.{Run, run_at, nothing_written, and_then, connection_after_tick, run_of_login, run_of_matching, unsent_reports, run_of_sending, run_of_pull, run_of_packet, run_on_packet}}
use Rattle.gx_connection.proofs.Records_next.{event_on, row_on, match_on}

abbrev told : Run → ℕ → Run
told run moment = pulled_of (reported_of run) (length (unsent_reports run.gate run.connection)) moment

abbrev met : Run → ClientPacket → Run
met run packet = matched_of (row_of run packet) run.connection.coming

pull_ends : (run : Run) (moment : ℕ) → last_of (mark run) (pull_marks run moment) ≡ mark (and_then run (λ g c. run_of_pull g c moment))
unfolding run_of_pull run_of_sending
pull_ends run moment = by (is_phase_on run.connection.session.phase)
  where
    by : (b : Bool) → last_of (mark run) (cond b (mark (reported_of run) ∷ mark (told run moment) ∷ []) []) ≡ mark (and_then run (λ g c. cond b (run_of_sending g c (unsent_reports g c) moment) (nothing_written g c)))
    by true = ap (λ t. mark (run_at (told run moment).gate (told run moment).connection t)) (append_assoc run.text (reports_text (unsent_reports run.gate run.connection)) _)
    by false = ap (λ t. mark (run_at run.gate run.connection t)) (sym (append-nil run.text))

pub packet_ends : (run : Run) (packet : ClientPacket) → last_of (mark run) (packet_marks run packet) ≡ mark (run_on_packet run packet)
unfolding run_of_packet run_of_matching
packet_ends run packet = by (is_over run.connection.session.phase)
  where
    by : (b : Bool) → last_of (mark run) (cond b [] (mark (row_of run packet) ∷ mark (met run packet) ∷ pull_marks (met run packet) run.connection.coming))
        ≡ mark (and_then run (λ g c. cond b (nothing_written g c) (and_then (run_of_login g (connection_after_tick c) packet c.coming) (λ h k. and_then (run_of_matching h k c.coming) (λ i l. run_of_pull i l c.coming)))))
    by true = ap (λ t. mark (run_at run.gate run.connection t)) (sym (append-nil run.text))
    by false = pull_ends (met run packet) run.connection.coming ∙ ap (λ t. mark (run_at (run_of_pull (met run packet).gate (met run packet).connection run.connection.coming).gate (run_of_pull (met run packet).gate (met run packet).connection run.connection.coming).connection t)) (append_assoc run.text (run_of_login run.gate (connection_after_tick run.connection) packet run.connection.coming).text (run_of_pull (met run packet).gate (met run packet).connection run.connection.coming).text)

pull_rises : (run : Run) (moment : ℕ) → Rises (mark run) (pull_marks run moment)
pull_rises run moment = by (is_phase_on run.connection.session.phase)
  where
    by : (b : Bool) → Rises (mark run) (cond b (mark (reported_of run) ∷ mark (told run moment) ∷ []) [])
    by true = (
      record { records = first_same run.gate.records run.gate.records refl; text = record { others = reports_text (unsent_reports run.gate run.connection); whole = refl } },
      (record { records = event_on (reported_of run).gate (reported_of run).connection _ moment; text = record { others = _; whole = refl } }, tt),
    )
    by false = tt

pub packet_rises : (run : Run) (packet : ClientPacket) → Rises (mark run) (packet_marks run packet)
packet_rises run packet = by (is_over run.connection.session.phase)
  where
    by : (b : Bool) → Rises (mark run) (cond b [] (mark (row_of run packet) ∷ mark (met run packet) ∷ pull_marks (met run packet) run.connection.coming))
    by true = tt
    by false = (
      record { records = row_on run.gate (connection_after_tick run.connection) packet run.connection.coming; text = record { others = (run_of_login run.gate (connection_after_tick run.connection) packet run.connection.coming).text; whole = refl } },
      (record { records = match_on (row_of run packet).gate (row_of run packet).connection run.connection.coming; text = first_same (row_of run packet).text (row_of run packet).text refl }, pull_rises (met run packet) run.connection.coming),
    )
