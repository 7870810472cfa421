-- The steps of the loop that cuts packets off, and what a feeder gives for a piece.
use Rattle.std.proofs.{Common.{◌≡◌, ℕ, ◌+◌, ◌-◌, ◌≤◌, true, false, List, [], ◌++◌, length, take, drop, Option, Some, None, refl, sym, ap, ◌∙◌, append_assoc, append-nil, arith, is_some}, lemmas.List.{take_rest, drop_all, drop-drop, length-drop}}
use Rattle.gx_soup.specs.declared.packet.ServerPacket.{ServerPacket}
use Rattle.std.specs.Option.{option_to_list}
use Rattle.gx_client.specs.{declared.front.{ServerFault.ServerFault, ServerFront.{ServerFront, TheVariants.{Short, Faulty, Whole}}}, ServerPackets.{server_front, ServerSoup, packets_behind, server_packets_of}, ServerFeeding.{HeldServerBytes, HasReadServerBytes, GivesServerPackets}}
use Rattle.gx_client.proofs.Packets_next.{joined, front_takes, packets_short, packets_faulty, packets_whole, packets_join, packets_nil}

module _ (bytes : List ℕ) (used : ℕ) (ps : List ServerPacket) (told : packets_behind ps (server_packets_of (drop used bytes)) ≡ server_packets_of bytes) where
  cut_from : (r : ServerFront) → r ≡ server_front (take (length bytes - used) (drop used bytes)) → server_front (drop used bytes) ≡ r
  cut_from r e = sym (e ∙ ap server_front (take_rest bytes used))

  pub cut_short : Short ≡ server_front (take (length bytes - used) (drop used bytes)) → server_packets_of bytes ≡ record { packets = ps; fault = None; rest = drop used bytes }
  cut_short e = sym told ∙ (ap (packets_behind ps) (packets_short (drop used bytes) (cut_from Short e)) ∙ ap (λ q. record { packets = q; fault = None; rest = drop used bytes }) (append-nil ps))

  pub cut_faulty : (f : ServerFault) → Faulty f ≡ server_front (take (length bytes - used) (drop used bytes)) → server_packets_of bytes ≡ record { packets = ps; fault = Some f; rest = drop (length bytes) bytes }
  cut_faulty f e = rw (drop_all (length bytes) bytes (omega arith)) (sym told ∙ (ap (packets_behind ps) (packets_faulty (drop used bytes) f (cut_from (Faulty f) e)) ∙ ap (λ q. record { packets = q; fault = Some f; rest = [] }) (append-nil ps)))

  pub cut_end : length bytes ≤ used → server_packets_of bytes ≡ record { packets = ps; fault = None; rest = drop used bytes }
  cut_end h =
      let e : drop used bytes ≡ [] = drop_all used bytes h in
      rw e (sym told ∙ (ap (λ r. packets_behind ps (server_packets_of r)) e ∙ (ap (packets_behind ps) packets_nil ∙ ap (λ q. record { packets = q; fault = None; rest = [] }) (append-nil ps))))

  pub cut_whole : (p : Option ServerPacket) (t : ℕ) → Whole p t ≡ server_front (take (length bytes - used) (drop used bytes)) → packets_behind (ps ++ option_to_list p) (server_packets_of (drop (used + t) bytes)) ≡ server_packets_of bytes
  cut_whole p t e =
      rw (← drop-drop t used bytes) (ap (λ q. record { packets = q; fault = (server_packets_of (drop t (drop used bytes))).fault; rest = (server_packets_of (drop t (drop used bytes))).rest }) (append_assoc ps (option_to_list p) (server_packets_of (drop t (drop used bytes))).packets) ∙ (ap (packets_behind ps) (sym (packets_whole (drop used bytes) p t (cut_from (Whole p t) e))) ∙ told))

  pub cut_takes : (p : Option ServerPacket) (t : ℕ) → Whole p t ≡ server_front (take (length bytes - used) (drop used bytes)) → (3 ≤ t) × (t ≤ length bytes - used)
  cut_takes p t e = let s = front_takes (drop used bytes) p t (cut_from (Whole p t) e) in (s.0, omega (arith, s.1, length-drop used bytes))

pub joined_stuck : (soup : ServerSoup) (fault : Option ServerFault) (piece : List ℕ) → is_some fault ≡ true → joined soup fault piece ≡ soup
joined_stuck soup None piece h = cc
joined_stuck soup (Some f) piece h = refl

joined_on : (soup : ServerSoup) (fault : Option ServerFault) (piece : List ℕ) → is_some fault ≡ false → joined soup fault piece ≡ packets_behind soup.packets (server_packets_of (soup.rest ++ piece))
joined_on soup None piece h = refl
joined_on soup (Some f) piece h = cc

pub fed_stuck : (rest : List ℕ) (fault : Option ServerFault) (feeder : HeldServerBytes) (piece : List ℕ) → record { rest = rest; fault = fault } ≡ feeder → is_some fault ≡ true → (given : List ServerPacket) → given ≡ [] → (before : List ℕ) → HasReadServerBytes feeder before → GivesServerPackets given fault feeder before piece
fed_stuck rest fault feeder piece view some given none before h =
    let f : fault ≡ feeder.fault = ap (λ (x : HeldServerBytes). x.fault) view in
    let still : is_some (server_packets_of before).fault ≡ true = rw (f, h.fault) at some in
    let e : server_packets_of (before ++ piece) ≡ server_packets_of before = packets_join before piece ∙ joined_stuck (server_packets_of before) _ piece still in
    record {
      packets = rw (e, none) (sym (append-nil (server_packets_of before).packets));
      fault = f ∙ (h.fault ∙ sym (ap (λ (s : ServerSoup). s.fault) e));
      reads = record { rest = h.rest ∙ sym (ap (λ (s : ServerSoup). s.rest) e); fault = h.fault ∙ sym (ap (λ (s : ServerSoup). s.fault) e) };
    }

pub fed_on : (rest : List ℕ) (fault : Option ServerFault) (feeder : HeldServerBytes) (piece : List ℕ) → record { rest = rest; fault = fault } ≡ feeder → is_some fault ≡ false → (given : List ServerPacket) (told : Option ServerFault) (left : List ℕ) → server_packets_of (rest ++ piece) ≡ record { packets = given; fault = told; rest = left } → (before : List ℕ) → HasReadServerBytes feeder before → GivesServerPackets given told (record { rest = left; fault = told }) before piece
fed_on rest fault feeder piece view none given told left cut before h =
    let f : fault ≡ feeder.fault = ap (λ (x : HeldServerBytes). x.fault) view in
    let same : rest ≡ (server_packets_of before).rest = ap (λ (x : HeldServerBytes). x.rest) view ∙ h.rest in
    let still : is_some (server_packets_of before).fault ≡ false = rw (f, h.fault) at none in
    let e : server_packets_of (before ++ piece) ≡ packets_behind (server_packets_of before).packets (record { packets = given; fault = told; rest = left }) = packets_join before piece ∙ (joined_on (server_packets_of before) _ piece still ∙ ap (packets_behind (server_packets_of before).packets) (ap (λ r. server_packets_of (r ++ piece)) (sym same) ∙ cut)) in
    record {
      packets = ap (λ (s : ServerSoup). s.packets) e;
      fault = sym (ap (λ (s : ServerSoup). s.fault) e);
      reads = record { rest = sym (ap (λ (s : ServerSoup). s.rest) e); fault = sym (ap (λ (s : ServerSoup). s.fault) e) };
    }
