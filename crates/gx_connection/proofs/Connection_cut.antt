-- Where a connection that was cut short stops.
use Rattle.std.proofs.{Common.{◌≡◌, ℕ, ◌+◌, ◌<◌, inl, inr, false, cond, List, [], ◌∷◌, ◌++◌, length, take, drop, get_or, refl, sym, ap, ◌∙◌, subst, append_assoc, append-nil, take-append-drop, Option}, KnownBytes.Appends-nil, lemmas.List.take_more}
use Rattle.std.specs.{Prelude.fold, Io.KnownBytes.Keeps}
use Rattle.gx_soup.specs.{declared.packet.{ClientPacket.ClientPacket, SoupFault.SoupFault}, Packets.packets_of, Feeding.{Held, HasRead, Gives}}
use Rattle.gx_soup.proofs.Packets_laws.{packets_grow}
use Rattle.gx_history.specs.declared.record.RecordData.{RecordData}
use Rattle.gx_access_gate.specs.Gates.{GateData}
use Rattle.gx_devices.specs.{Pieces.Flow, Stopping.{AreFewer, Mark, MayEnd, trail}}
use Rattle.gx_devices.specs.Pieces as pieces
use Rattle.gx_devices.proofs.{Run_pieces.{Stands, behind, cut_there, items_cut, refused, unsent}, Run_stopped.first_same}
use Rattle.gx_connection.specs.{declared.{connection.Connection.Connection, fault.PipeFault.PipeFault}, Piping.{RunState, mark, cause_of, Refused, logout_of, IsTaken, IsGivenUp, IsMatchedInPart, row_of, matched_of, pull_marks, packet_marks, IsRunThere, PipeStopsIn, way, IsRunAfter, ArePackets, Broken, IsPipeCutShort}, Serving.IsOnLine, Transcript.{Run, run_at, with_text, nothing_written, and_then, connection_after_tick, run_of_login, run_of_matching, run_of_pull, run_of_packet, run_on_packet, run_of}}
use Rattle.gx_session.specs.Events.{is_over}
use Rattle.gx_connection.proofs.{Records_next.match_going, Packet_marks.packet_ends, Line_kept.{settling_keeps, row_keeps, match_keeps, packets_keep, run_keeps}, Run_next.fold_from, Connection_call.{pauses, taken_behind}}

-- What stopped a packet.

module _ (gate : GateData) (c : Connection) (packet : ClientPacket) (going : is_over c.session.phase ≡ false) where
  abbrev row : Run
  row = run_of_login gate (connection_after_tick c) packet c.coming

  handled_is : run_of_packet gate c packet ≡ with_text row.text (run_of_pull (run_of_matching row.gate row.connection c.coming).gate row.connection c.coming)
  unfolding run_of_packet run_of_matching
  handled_is = ap (λ b. cond b (nothing_written gate c) (and_then row (λ g k. and_then (run_of_matching g k c.coming) (λ h l. run_of_pull h l c.coming)))) going

  -- the packet was answered, and its matching steps made
  pub take_done : (met then : GateData) (on : Connection) (output mid left : Option (List ℕ)) → IsTaken row met on output mid → then ≡ (run_of_matching met on c.coming).gate
      → (now : GateData) (state : Connection) → IsTaken (run_of_pull then on c.coming) now state mid left → IsTaken (run_of_packet gate c packet) now state output left
  take_done met then on output mid left t settled now state p =
      let gate_is : then ≡ (run_of_matching row.gate row.connection c.coming).gate = settled ∙ (ap (λ g. (run_of_matching g on c.coming).gate) t.gate ∙ ap (λ k. (run_of_matching row.gate k c.coming).gate) t.connection) in
      let pulled_at : run_of_pull then on c.coming ≡ run_of_pull (run_of_matching row.gate row.connection c.coming).gate row.connection c.coming =
      ap (λ g. run_of_pull g on c.coming) gate_is ∙ ap (λ k. run_of_pull (run_of_matching row.gate row.connection c.coming).gate k c.coming) t.connection in
      subst (λ r. IsTaken r now state output left) (sym (handled_is ∙ ap (with_text row.text) (sym pulled_at)))
      (taken_behind row.text (run_of_pull then on c.coming) now state output mid left t.text p)

  module _ (text : List ℕ) (more : List (Mark RecordData RunState)) where
    abbrev start : Run
    start = run_at gate c text

    abbrev answered_there : Run
    answered_there = row_of start packet

    abbrev met_there : Run
    met_there = matched_of answered_there c.coming

    marks_are : packet_marks start packet ≡ mark answered_there ∷ mark met_there ∷ pull_marks met_there c.coming
    marks_are = ap (λ b. cond b [] (mark answered_there ∷ mark met_there ∷ pull_marks met_there c.coming)) going

    stops_there : (fault : PipeFault) (now : GateData) (state : Connection) (output left : Option (List ℕ)) → PipeStopsIn start ((mark answered_there ∷ mark met_there ∷ pull_marks met_there c.coming) ++ more) fault now state output left
        → PipeStopsIn start (packet_marks start packet ++ more) fault now state output left
    stops_there fault now state output left h = subst (λ ms. PipeStopsIn start (ms ++ more) fault now state output left) (sym marks_are) h

    pub answer_cut : (fault : PipeFault) (now : GateData) (state : Connection) (output left : Option (List ℕ)) → IsGivenUp gate (connection_after_tick c) row fault now state output left
        → PipeStopsIn start (packet_marks start packet ++ more) fault now state output left
    answer_cut fault now state output left (inl h) = stops_there fault now state output left
        (refused Refused (IsRunThere now state start) (cause_of fault) (mark start) (mark answered_there) _ output left (mark start) h.1.cause (record { made = first_same gate.records gate.records refl; left = h.0; text = refl; known = refl })
        (record { gate = h.1.gate_is; logout = h.1.logout; line = λ k. k }) h.1.written)
    answer_cut fault now state output left (inr u) = stops_there fault now state output left
        (unsent Refused (IsRunThere now state start) (cause_of fault) (mark start) (mark answered_there) _ output left row.text u.text refl u.sending
        (record { gate = u.gate; logout = u.logout; line = row_keeps gate c packet c.coming }))

    -- the packet was answered, and a matching step refused
    pub match_cut : (fault : PipeFault) (then now : GateData) (on : Connection) (output left : Option (List ℕ)) → IsTaken row then on output left → IsMatchedInPart then on c.coming fault now
        → PipeStopsIn start (packet_marks start packet ++ more) fault now on output left
    match_cut fault then now on output left t part =
        let here : IsMatchedInPart row.gate row.connection c.coming fault now = subst (λ k. IsMatchedInPart row.gate k c.coming fault now) t.connection (subst (λ g. IsMatchedInPart g on c.coming fault now) t.gate part) in
        let stop : Mark RecordData RunState = record { records = now.records; text = text ++ row.text; known = record { policy = row.gate.policy; connection = row.connection } } in
        stops_there fault now on output left
        (behind Refused (IsRunThere now on start) (cause_of fault) (mark start) (mark answered_there) _ output left (IsRunThere now on start) left row.text (λ m h. h) refl t.text
        (refused Refused (IsRunThere now on start) (cause_of fault) (mark answered_there) (mark met_there) _ left left stop here.cause (record {
          made = record { others = here.matches.adds.more; whole = here.matches.adds.goes_on };
          left = subst (λ (g : GateData). AreFewer now.records g.records) (sym (match_going row.gate row.connection c.coming here.goes_on)) here.left;
          text = refl;
          known = refl;
        }) (record {
          gate = ap (λ p. record { policy = p; records = now.records }) here.matches.policy_kept;
          logout = ap logout_of t.connection;
          line = λ k. subst (λ p. IsOnLine (record { policy = p; records = now.records }) row.connection) here.matches.policy_kept (settling_keeps row.gate now row.connection c.coming here.matches (row_keeps gate c packet c.coming k));
        }) (Appends-nil left)))

    -- the packet was answered, its matching steps made, and the pull cut short
    pub pull_cut : (met then : GateData) (on : Connection) (output mid left : Option (List ℕ)) → IsTaken row met on output mid → then ≡ (run_of_matching met on c.coming).gate
        → (fault : PipeFault) (now : GateData) (state : Connection)
        → ((text : List ℕ) (more : List (Mark RecordData RunState)) → PipeStopsIn (run_at then on text) (pull_marks (run_at then on text) c.coming ++ more) fault now state mid left)
        → PipeStopsIn start (packet_marks start packet ++ more) fault now state output left
    unfolding run_of_login run_of_matching
    pull_cut met then on output mid left t settled fault now state cut =
        let gate_is : then ≡ met_there.gate = settled ∙ (ap (λ g. (run_of_matching g on c.coming).gate) t.gate ∙ ap (λ k. (run_of_matching row.gate k c.coming).gate) t.connection) in
        let s : PipeStopsIn met_there (pull_marks met_there c.coming ++ more) fault now state mid left =
        subst (λ k. PipeStopsIn (run_at met_there.gate k (text ++ row.text)) (pull_marks (run_at met_there.gate k (text ++ row.text)) c.coming ++ more) fault now state mid left) t.connection
        (subst (λ g. PipeStopsIn (run_at g on (text ++ row.text)) (pull_marks (run_at g on (text ++ row.text)) c.coming ++ more) fault now state mid left) gate_is (cut (text ++ row.text) more)) in
        let There = IsRunThere now state met_there in
        stops_there fault now state output left
        (behind Refused (IsRunThere now state start) (cause_of fault) (mark start) (mark answered_there) _ output left There mid row.text
        (λ m h. record { gate = h.gate; logout = h.logout; line = λ k. h.line (match_keeps row.gate row.connection c.coming (row_keeps gate c packet c.coming k)) }) refl t.text
        (behind Refused There (cause_of fault) (mark answered_there) (mark met_there) _ mid left There mid [] (λ m h. h) (sym (append-nil _)) (Appends-nil mid) s))

-- the packet at this place was cut short
pub item_cut : (gate : GateData) (connection : Connection) (packets : List ClientPacket) (i : ℕ) (packet : ClientPacket) → i < length packets → packet ≡ get_or packets i packet → (then : GateData) (state : Connection) (output mid left : Option (List ℕ)) (fault : PipeFault) (now : GateData) (after : Connection)
    → IsTaken (fold run_on_packet (nothing_written gate connection) (take i packets)) then state output mid
    → ((text : List ℕ) (more : List (Mark RecordData RunState)) → PipeStopsIn (run_at then state text) (packet_marks (run_at then state text) packet ++ more) fault now after mid left)
    → (text : List ℕ) → PipeStopsIn (run_at gate connection text) (trail packet_marks run_on_packet (run_at gate connection text) packets) fault now after output left
item_cut gate connection packets i packet within item then state output mid left fault now after taken cut text =
    let others = drop (i + 1) packets in
    let one : take (i + 1) packets ≡ take i packets ++ packet ∷ [] = take_more packets i packet within ∙ ap (λ p. take i packets ++ p ∷ []) (sym item) in
    let all : take i packets ++ packet ∷ others ≡ packets =
    sym (append_assoc (take i packets) (packet ∷ []) others) ∙ (ap (λ x. x ++ others) (sym one) ∙ take-append-drop (i + 1) packets) in
    let start = run_at gate connection text in
    let done = fold run_on_packet (nothing_written gate connection) (take i packets) in
    let there : run_at then state (text ++ done.text) ≡ fold run_on_packet start (take i packets) =
    ap (λ g. run_at g state (text ++ done.text)) taken.gate ∙ ap (λ k. run_at done.gate k (text ++ done.text)) taken.connection ∙ sym (fold_from (take i packets) start) in
    let at : Run = run_at then state (text ++ done.text) in
    subst (λ ps. PipeStopsIn start (trail packet_marks run_on_packet start ps) fault now after output left) all
    (items_cut mark packet_marks run_on_packet packet_ends Refused (IsRunThere now after start) (IsRunThere now after at)
    (λ m h. record { gate = h.gate; logout = h.logout; line = λ k. h.line (subst (λ (r : Run). IsOnLine r.gate r.connection) (sym there) (packets_keep (take i packets) start k)) })
    (cause_of fault) (take i packets) (packet ∷ others) start done.text output mid left (ap (λ (r : Run). r.text) (sym there)) taken.text
    (subst (λ r. pieces.StopsIn Refused (IsRunThere now after at) (cause_of fault) (mark r) (trail packet_marks run_on_packet r (packet ∷ others)) mid left) there (cut (text ++ done.text) (trail packet_marks run_on_packet (run_on_packet at packet) others))))

-- nothing of the piece was fed
pub feed_cut : (before : GateData) (first : ℕ) (bytes piece : List ℕ) (gate : GateData) (connection : Connection) (feeder : Held) (output : Option (List ℕ)) → IsRunAfter before first gate connection feeder bytes
    → Broken before first bytes piece PipeFault.OutOfMemory gate connection output output
feed_cut before first bytes piece gate connection feeder output follows =
    let g = packets_grow bytes piece in
    let run = run_of before first bytes in
    record { items = g.0; are_next = g.1; cut = pauses run (trail packet_marks run_on_packet run g.0) gate connection output follows.gate follows.connection }

pub broken_by : (gate : GateData) (connection : Connection) (feeder feeder' : Held) (piece : List ℕ) (given : List ClientPacket) (told : Option SoupFault) (output left : Option (List ℕ)) (fault : PipeFault) (now : GateData) (state : Connection) → ((bytes : List ℕ) → HasRead feeder bytes → Gives given told feeder' bytes piece)
    → ((text : List ℕ) → PipeStopsIn (run_at gate connection text) (trail packet_marks run_on_packet (run_at gate connection text) given) fault now state output left)
    → (before : GateData) (first : ℕ) (bytes : List ℕ) → IsRunAfter before first gate connection feeder bytes → Broken before first bytes piece fault now state output left
broken_by gate connection feeder feeder' piece given told output left fault now state feeds cut before first bytes follows =
    let run = run_of before first bytes in
    record {
      items = given;
      are_next = (feeds bytes follows.reads).packets;
      cut =
          subst (λ k. PipeStopsIn (run_at run.gate k run.text) (trail packet_marks run_on_packet (run_at run.gate k run.text) given) fault now state output left) follows.connection
          (subst (λ g. PipeStopsIn (run_at g connection run.text) (trail packet_marks run_on_packet (run_at g connection run.text) given) fault now state output left) follows.gate (cut run.text));
    }

module _ (before : GateData) (first : ℕ) (gate : GateData) (connection : Connection) (feeder : Held) (flow : Flow) (s : Stands (way before first) (IsRunAfter before first gate connection feeder) flow) where
  pub stands_on_line : IsOnLine gate connection
  stands_on_line =
      let run = run_of before first s.bytes in
      subst (λ k. IsOnLine gate k) (sym s.follows.connection) (subst (λ g. IsOnLine g run.connection) (sym s.follows.gate) (run_keeps before first s.bytes))

  -- all that was read is answered
  pub fault_stands : (left : Option (List ℕ)) (fault : PipeFault) → MayEnd (cause_of fault) → Keeps flow.left left → IsPipeCutShort (record flow { left = left }) before first fault gate connection
  fault_stands left fault may kept = cut_there (way before first) _ flow s Refused (IsRunThere gate connection) ArePackets (cause_of fault) left kept may (record { gate = s.follows.gate; logout = ap logout_of s.follows.connection; line = λ k. k })
      (ap (λ b. (packets_of b).packets) (append-nil s.bytes) ∙ sym (append-nil (packets_of s.bytes).packets))
