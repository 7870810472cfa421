-- Laws of runs: text that stands before, a piece more, and the end.
use Rattle.std.proofs.{Common.{◌≡◌, ℕ, Bool, true, false, ◌||◌, ◌⊎◌, is_some, List, [], ◌∷◌, ◌++◌, refl, sym, ap, ◌∙◌, append_assoc, append-nil, Option, None, cond}, KnownBytes.{Appends-nil}, lemmas.List.Sums.fold-append}
use Rattle.std.specs.{Prelude.fold, Io.KnownBytes.{IsAtEnd}}
use Rattle.gx_soup.specs.{declared.packet.{ClientPacket.ClientPacket, SoupFault.SoupFault}, Packets.packets_of, Feeding.{Held, HasRead, Gives}}
use Rattle.gx_soup.proofs.Packets_laws.{nothing_after_fault, packets_grow}
use Rattle.gx_devices.specs.Pieces.{Flow}
use Rattle.gx_devices.proofs.Run_pieces.{Stands, all_of_whole, stands_first, whole}
use Rattle.gx_access_gate.specs.Gates.{GateData}
use Rattle.gx_connection.specs.{declared.connection.Connection.Connection, Transcript.{Run, and_then, on_event, run_of_login, run_of_matching, run_of_pull, connection_after_tick, with_text, nothing_written, run_of_packet, run_on_packet, run_opened, opened_at, run_of, run_to_its_end, pipe, is_ended}, Piping.{mark, gate_at, way, IsTaken, IsRunAfter, Exchanged, IsTranscript, IsPipe}}
use Rattle.gx_session.specs.{Events.is_over, Table.{SessionData, row_in, turn}, declared.session.Phase.{Phase, TheVariants.{Fresh}}, Sending.control_text}
use Rattle.gx_session.specs.Happenings as happens

-- text that stands before stays before
fold_behind : (ps : List ClientPacket) (before : List ℕ) (run : Run) → fold run_on_packet (with_text before run) ps ≡ with_text before (fold run_on_packet run ps)
fold_behind [] before run = refl
fold_behind (p ∷ ps) before run =
    let h = run_of_packet run.gate run.connection p in
    ap (λ t. fold run_on_packet (record { gate = h.gate; connection = h.connection; text = t }) ps) (append_assoc before run.text h.text) ∙ fold_behind ps before (run_on_packet run p)

-- a run from another's end
pub fold_from : (ps : List ClientPacket) (run : Run) → fold run_on_packet run ps ≡ with_text run.text (fold run_on_packet (nothing_written run.gate run.connection) ps)
fold_from ps run =
    ap (λ t. fold run_on_packet (record { gate = run.gate; connection = run.connection; text = t }) ps) (sym (append-nil run.text)) ∙ fold_behind ps run.text (nothing_written run.gate run.connection)

run_nil : (before : GateData) (first : ℕ) → (packets_of []).packets ≡ [] → run_of before first [] ≡ run_opened before first
unfolding run_of
run_nil before first e = ap (fold run_on_packet (run_opened before first)) e

run_more : (before : GateData) (first : ℕ) (bytes piece : List ℕ) (given : List ClientPacket) → (packets_of (bytes ++ piece)).packets ≡ (packets_of bytes).packets ++ given → run_of before first (bytes ++ piece) ≡ with_text (run_of before first bytes).text (fold run_on_packet (nothing_written (run_of before first bytes).gate (run_of before first bytes).connection) given)
unfolding run_of
run_more before first bytes piece given e =
    ap (fold run_on_packet (run_opened before first)) e ∙ (fold-append run_on_packet (run_opened before first) (packets_of bytes).packets given ∙ fold_from given (fold run_on_packet (run_opened before first) (packets_of bytes).packets))

over_is : (before : GateData) (first : ℕ) (bytes : List ℕ) (fault : Option SoupFault) (connection : Connection) → fault ≡ (packets_of bytes).fault → connection ≡ (run_of before first bytes).connection → (is_some fault || is_over connection.session.phase) ≡ is_ended before first bytes
unfolding is_ended
over_is before first bytes fault connection f s = rw (f, s) refl

-- a piece that was fed, and its packets taken
pub exchanged_by : (before : GateData) (first : ℕ) (bytes piece : List ℕ) (gate gate' : GateData) (connection connection' : Connection) (feeder feeder' : Held) (given : List ClientPacket) (told : Option SoupFault) (output written : Option (List ℕ)) → Gives given told feeder' bytes piece → IsTaken (fold run_on_packet (nothing_written gate connection) given) gate' connection' output written
    → IsRunAfter before first gate connection feeder bytes → Exchanged before first bytes piece (is_some told || is_over connection'.session.phase) gate' connection' feeder' output written
exchanged_by before first bytes piece gate gate' connection connection' feeder feeder' given told output written gives taken follows =
    let run = run_of before first bytes in
    let e : run_of before first (bytes ++ piece) ≡ with_text run.text (fold run_on_packet (nothing_written gate connection) given) =
    run_more before first bytes piece given gives.packets ∙ ap (with_text run.text) (ap (λ h. fold run_on_packet (nothing_written h run.connection) given) (sym follows.gate) ∙ ap (λ s. fold run_on_packet (nothing_written gate s) given) (sym follows.connection)) in
    let same : connection' ≡ (run_of before first (bytes ++ piece)).connection = taken.connection ∙ sym (ap (λ (r : Run). r.connection) e) in
    record {
      takes = record {
        follows = record { reads = gives.reads; gate = taken.gate ∙ sym (ap (λ (r : Run). r.gate) e); connection = same };
        told = (fold run_on_packet (nothing_written gate connection) given).text;
        written = taken.text;
        more = ap (λ (r : Run). r.text) e;
      };
      ends = over_is before first (bytes ++ piece) told connection' gives.fault same;
    }

pub starts : (before : GateData) (first : ℕ) (feeder : Held) (input output : Option (List ℕ)) → (packets_of []).packets ≡ [] → HasRead feeder []
    → Stands (way before first) (IsRunAfter before first before (opened_at first) feeder) (record { input = input; left = input; output = output; written = output })
starts before first feeder input output none reads =
    let e = run_nil before first none in
    stands_first (way before first) _ input output (record { reads = reads; gate = rw e refl; connection = rw e refl }) (ap (λ (r : Run). r.text) e)

row_end : (p : Phase) (silent quiet : Bool) → (row_in p happens.End silent quiet).reply.send ≡ None
row_end Fresh silent quiet = refl
row_end p silent quiet = refl

-- nothing is sent at the end
end_is_silent : (session : SessionData) (moment : ℕ) → (turn session happens.End moment).reply.send ≡ None
unfolding turn
end_is_silent session moment = row_end session.phase _ _

finished_from : (run : Run) (gate : GateData) (connection : Connection) → gate ≡ run.gate → connection ≡ run.connection → (run_to_its_end run).gate ≡ (run_to_its_end (nothing_written gate connection)).gate
unfolding run_to_its_end
finished_from run gate connection h s =
    ap (λ x. (on_event x run.connection happens.End run.connection.session.heard).gate) (sym h) ∙ ap (λ (x : Connection). (on_event gate x happens.End x.session.heard).gate) (sym s)

pub finished_text : (run : Run) → (run_to_its_end run).text ≡ run.text
unfolding run_to_its_end on_event
finished_text run =
    ap (λ c. run.text ++ control_text c) (end_is_silent run.connection.session run.connection.session.heard) ∙ append-nil run.text

pipe_history : (before : GateData) (first : ℕ) (bytes : List ℕ) (gate : GateData) (connection : Connection) → gate ≡ (run_of before first bytes).gate → connection ≡ (run_of before first bytes).connection → (pipe before first bytes).gate ≡ (run_to_its_end (nothing_written gate connection)).gate
unfolding pipe
pipe_history before first bytes gate connection h s = finished_from (run_of before first bytes) gate connection h s

pub pipe_text : (before : GateData) (first : ℕ) (bytes : List ℕ) → (pipe before first bytes).text ≡ (run_of before first bytes).text
unfolding pipe
pipe_text before first bytes = finished_text (run_of before first bytes)

-- the end of a connection
pub ended : (before : GateData) (first : ℕ) (gate gate' : GateData) (connection : Connection) (feeder : Held) (flow : Flow) → (s : Stands (way before first) (IsRunAfter before first gate connection feeder) flow) → gate' ≡ (run_to_its_end (nothing_written gate connection)).gate
    → IsAtEnd flow.left ⊎ (is_ended before first s.bytes ≡ true) → IsTranscript flow before first gate'
ended before first gate gate' connection feeder flow s f over =
    whole (way before first) _ flow s (λ bytes. mark (pipe before first bytes)) (is_ended before first) (λ m. gate' ≡ gate_at m) flow.written [] (f ∙ sym (pipe_history before first s.bytes gate connection s.follows.gate s.follows.connection)) (pipe_text before first s.bytes ∙ sym (append-nil _)) (Appends-nil flow.written) over

pub on_done : (run : Run) (p : ClientPacket) → is_over run.connection.session.phase ≡ true → run_on_packet run p ≡ run
unfolding run_of_packet
on_done run p h =
    ap (λ b. with_text run.text (cond b (nothing_written run.gate run.connection) (and_then (run_of_login run.gate (connection_after_tick run.connection) p run.connection.coming) (λ g c. and_then (run_of_matching g c run.connection.coming) (λ g c. run_of_pull g c run.connection.coming))))) h
    ∙ ap (λ t. record { gate = run.gate; connection = run.connection; text = t }) (append-nil run.text)

fold_done : (ps : List ClientPacket) (run : Run) → is_over run.connection.session.phase ≡ true → fold run_on_packet run ps ≡ run
fold_done [] run h = refl
fold_done (p ∷ ps) run h =
    let still : run_on_packet run p ≡ run = on_done run p h in
    ap (λ r. fold run_on_packet r ps) still ∙ fold_done ps run h

over_follows : (before : GateData) (first : ℕ) (bytes more : List ℕ) → (fault : Bool) → (done : Bool) → fault ≡ is_some (packets_of bytes).fault → done ≡ is_over (run_of before first bytes).connection.session.phase → (fault || done) ≡ true → run_of before first (bytes ++ more) ≡ run_of before first bytes
unfolding run_of
over_follows before first bytes more true done f d h =
    ap (λ s. fold run_on_packet (run_opened before first) s.packets) (nothing_after_fault bytes more (sym f))
over_follows before first bytes more false true f d h =
    let g = packets_grow bytes more in
    ap (fold run_on_packet (run_opened before first)) g.1 ∙ (fold-append run_on_packet (run_opened before first) (packets_of bytes).packets g.0 ∙ fold_done g.0 (fold run_on_packet (run_opened before first) (packets_of bytes).packets) (sym d))
over_follows before first bytes more false false f d h = cc

-- once the connection is over, nothing that follows counts
pub nothing_follows : (before : GateData) (first : ℕ) (bytes more : List ℕ) → is_ended before first bytes ≡ true → pipe before first (bytes ++ more) ≡ pipe before first bytes
unfolding pipe is_ended
nothing_follows before first bytes more h = ap run_to_its_end (over_follows before first bytes more _ _ refl refl h)

pub all_of_transcript : (flow : Flow) (before : GateData) (first : ℕ) (after : GateData) → IsTranscript flow before first after → IsPipe flow before first after
all_of_transcript flow before first after t =
    all_of_whole (λ bytes. mark (pipe before first bytes)) (is_ended before first) (λ m. after ≡ gate_at m) flow (λ bytes more h. ap mark (nothing_follows before first bytes more h)) t
