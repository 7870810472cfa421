-- The steps of the loop that cuts packets off, and what a feeder gives for a piece.
use Rattle.std.proofs.{Common.{◌≡◌, ℕ, ◌+◌, ◌-◌, ◌≤◌, true, false, List, [], ◌∷◌, ◌++◌, length, take, drop, Option, Some, None, refl, sym, ap, ◌∙◌, append_assoc, append-nil, arith, is_some}, lemmas.List.{take_rest, drop_all, drop-drop, length-drop}}
use Rattle.gx_soup.specs.{declared.{packet.{ClientPacket.ClientPacket, SoupFault.SoupFault}, front.First.First}, Fronts.with_front, Packets.{Front, Short, Faulty, Whole, front, Soup, packets_of}, Feeding.{Held, HasRead, Gives}}
use Rattle.gx_soup.specs.Fronts as fronts
use Rattle.gx_soup.proofs.Packets_next.{behind, joined, front_takes, packets_short, packets_faulty, packets_whole, packets_join, packets_nil}

module _ (bytes : List ℕ) (used : ℕ) (ps : List ClientPacket) (told : behind ps (packets_of (drop used bytes)) ≡ packets_of bytes) where
  cut_from : (r : Front) → r ≡ front (take (length bytes - used) (drop used bytes)) → front (drop used bytes) ≡ r
  cut_from r e = sym (e ∙ ap front (take_rest bytes used))

  cut_short : Short ≡ front (take (length bytes - used) (drop used bytes)) → packets_of bytes ≡ record { packets = ps; fault = None; rest = drop used bytes }
  cut_short e = sym told ∙ (ap (behind ps) (packets_short (drop used bytes) (cut_from Short e)) ∙ ap (λ q. record { packets = q; fault = None; rest = drop used bytes }) (append-nil ps))

  cut_faulty : (f : SoupFault) → Faulty f ≡ front (take (length bytes - used) (drop used bytes)) → packets_of bytes ≡ record { packets = ps; fault = Some f; rest = drop (length bytes) bytes }
  cut_faulty f e = rw (drop_all (length bytes) bytes (omega arith)) (sym told ∙ (ap (behind ps) (packets_faulty (drop used bytes) f (cut_from (Faulty f) e)) ∙ ap (λ q. record { packets = q; fault = Some f; rest = [] }) (append-nil ps)))

  pub cut_end : length bytes ≤ used → packets_of bytes ≡ record { packets = ps; fault = None; rest = drop used bytes }
  cut_end h =
      let e : drop used bytes ≡ [] = drop_all used bytes h in
      rw e (sym told ∙ (ap (λ r. behind ps (packets_of r)) e ∙ (ap (behind ps) packets_nil ∙ ap (λ q. record { packets = q; fault = None; rest = [] }) (append-nil ps))))

  cut_whole : (p : ClientPacket) (t : ℕ) → Whole p t ≡ front (take (length bytes - used) (drop used bytes)) → behind (ps ++ p ∷ []) (packets_of (drop (used + t) bytes)) ≡ packets_of bytes
  cut_whole p t e =
      rw (← drop-drop t used bytes) (ap (λ q. record { packets = q; fault = (packets_of (drop t (drop used bytes))).fault; rest = (packets_of (drop t (drop used bytes))).rest }) (append_assoc ps (p ∷ []) (packets_of (drop t (drop used bytes))).packets) ∙ (ap (behind ps) (sym (packets_whole (drop used bytes) p t (cut_from (Whole p t) e))) ∙ told))

  cut_takes : (p : ClientPacket) (t : ℕ) → Whole p t ≡ front (take (length bytes - used) (drop used bytes)) → (3 ≤ t) × (t ≤ length bytes - used)
  cut_takes p t e = let s = front_takes (drop used bytes) p t (cut_from (Whole p t) e) in (s.0, omega (arith, s.1, length-drop used bytes))

  -- what stands first there
  abbrev first_left : Front
  first_left = front (take (length bytes - used) (drop used bytes))

  pub cut_at_short : (now : List ClientPacket) → First.Short ≡ fronts.first_of_front first_left → now ≡ with_front ps first_left → packets_of bytes ≡ record { packets = now; fault = None; rest = drop used bytes }
  cut_at_short now short put = by first_left refl short put
    where
      by : (r : Front) → r ≡ first_left → First.Short ≡ fronts.first_of_front r → now ≡ with_front ps r → packets_of bytes ≡ record { packets = now; fault = None; rest = drop used bytes }
      by Short is e put = rw put (cut_short is)
      by (Faulty f) is e put = cc
      by (Whole p t) is e put = cc

  pub cut_at_fault : (f : SoupFault) (now : List ClientPacket) → First.Faulty f ≡ fronts.first_of_front first_left → now ≡ with_front ps first_left
      → packets_of bytes ≡ record { packets = now; fault = Some f; rest = drop (length bytes) bytes }
  cut_at_fault f now faulty put = by first_left refl faulty put
    where
      by : (r : Front) → r ≡ first_left → First.Faulty f ≡ fronts.first_of_front r → now ≡ with_front ps r → packets_of bytes ≡ record { packets = now; fault = Some f; rest = drop (length bytes) bytes }
      by Short is e put = cc
      by (Faulty g) is e put = let same : f ≡ g = cc in rw (put, same) (cut_faulty g is)
      by (Whole p t) is e put = cc

  pub cut_behind : (t : ℕ) (now : List ClientPacket) → First.Whole t ≡ fronts.first_of_front first_left → now ≡ with_front ps first_left → behind now (packets_of (drop (used + t) bytes)) ≡ packets_of bytes
  cut_behind t now whole put = by first_left refl whole put
    where
      by : (r : Front) → r ≡ first_left → First.Whole t ≡ fronts.first_of_front r → now ≡ with_front ps r → behind now (packets_of (drop (used + t) bytes)) ≡ packets_of bytes
      by Short is e put = cc
      by (Faulty f) is e put = cc
      by (Whole p s) is e put = let same : t ≡ s = cc in rw (put, same) (cut_whole p s is)

  pub cut_within : (t : ℕ) → First.Whole t ≡ fronts.first_of_front first_left → (3 ≤ t) × (t ≤ length bytes - used)
  cut_within t whole = by first_left refl whole
    where
      by : (r : Front) → r ≡ first_left → First.Whole t ≡ fronts.first_of_front r → (3 ≤ t) × (t ≤ length bytes - used)
      by Short is e = cc
      by (Faulty f) is e = cc
      by (Whole p s) is e = let same : t ≡ s = cc in rw same (cut_takes p s is)

pub joined_stuck : (soup : Soup) (fault : Option SoupFault) (piece : List ℕ) → is_some fault ≡ true → joined soup fault piece ≡ soup
joined_stuck soup None piece h = cc
joined_stuck soup (Some f) piece h = refl

joined_on : (soup : Soup) (fault : Option SoupFault) (piece : List ℕ) → is_some fault ≡ false → joined soup fault piece ≡ behind soup.packets (packets_of (soup.rest ++ piece))
joined_on soup None piece h = refl
joined_on soup (Some f) piece h = cc

pub fed_stuck : (rest : List ℕ) (fault : Option SoupFault) (feeder : Held) (piece : List ℕ) → record { rest = rest; fault = fault } ≡ feeder → is_some fault ≡ true → (given : List ClientPacket) → given ≡ [] → (before : List ℕ) → HasRead feeder before → Gives given fault feeder before piece
fed_stuck rest fault feeder piece view some given none before h =
    let f : fault ≡ feeder.fault = ap (λ (x : Held). x.fault) view in
    let still : is_some (packets_of before).fault ≡ true = rw (f, h.fault) at some in
    let e : packets_of (before ++ piece) ≡ packets_of before = packets_join before piece ∙ joined_stuck (packets_of before) _ piece still in
    record {
      packets = rw (e, none) (sym (append-nil (packets_of before).packets));
      fault = f ∙ (h.fault ∙ sym (ap (λ (s : Soup). s.fault) e));
      reads = record { rest = h.rest ∙ sym (ap (λ (s : Soup). s.rest) e); fault = h.fault ∙ sym (ap (λ (s : Soup). s.fault) e) };
    }

pub fed_on : (rest : List ℕ) (fault : Option SoupFault) (feeder : Held) (piece : List ℕ) → record { rest = rest; fault = fault } ≡ feeder → is_some fault ≡ false → (given : List ClientPacket) (told : Option SoupFault) (left : List ℕ) → packets_of (rest ++ piece) ≡ record { packets = given; fault = told; rest = left } → (before : List ℕ) → HasRead feeder before → Gives given told (record { rest = left; fault = told }) before piece
fed_on rest fault feeder piece view none given told left cut before h =
    let f : fault ≡ feeder.fault = ap (λ (x : Held). x.fault) view in
    let same : rest ≡ (packets_of before).rest = ap (λ (x : Held). x.rest) view ∙ h.rest in
    let still : is_some (packets_of before).fault ≡ false = rw (f, h.fault) at none in
    let e : packets_of (before ++ piece) ≡ behind (packets_of before).packets (record { packets = given; fault = told; rest = left }) = packets_join before piece ∙ (joined_on (packets_of before) _ piece still ∙ ap (behind (packets_of before).packets) (ap (λ r. packets_of (r ++ piece)) (sym same) ∙ cut)) in
    record {
      packets = ap (λ (s : Soup). s.packets) e;
      fault = sym (ap (λ (s : Soup). s.fault) e);
      reads = record { rest = sym (ap (λ (s : Soup). s.rest) e); fault = sym (ap (λ (s : Soup). s.fault) e) };
    }
