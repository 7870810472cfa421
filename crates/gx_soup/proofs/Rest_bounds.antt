-- How much is left over.
use Rattle.gx_units.proofs.Lists_hold.{IsBytes}
use Rattle.std.proofs.{Common.{◌≡◌, ℕ, zero, suc, ◌+◌, ◌-◌, ◌*◌, ◌<◌, ◌≤◌, ◌⊎◌, inl, inr, Bool, true, false, cond, not, ◌&&◌, ◌==◌, nat_lt, List, [], ◌∷◌, length, take, drop, get_or, Option, Some, None, refl, ap, arith}, lemmas.{Bool.ltb-true, List.{nil_from_length, get_or-drop, length-drop}}}
use Rattle.gx_soup.specs.{declared.{packet.{ClientPacket.ClientPacket, SoupFault.SoupFault}}, Standard.{login_request, login_length, longest_packet}, Packets.{Front, Short, Faulty, Whole, front, typed_front, whole_front, login_front, is_client_type, Soup, packets_of}}
use Rattle.gx_soup.proofs.Packets_next.{packets_short, packets_faulty, packets_whole, packets_nil, front_takes}

told_short : (u l s : Bool) (x y : SoupFault) (w : Front) → ¬ (w ≡ Short) → cond u (Faulty x) (cond l (Faulty y) (cond s Short w)) ≡ Short → s ≡ true
told_short true l s x y w h e = cc
told_short false true s x y w h e = cc
told_short false false true x y w h e = refl
told_short false false false x y w h e = absurd (h e)

login_told : (payload : List ℕ) (o : Option ℕ) → ¬ (login_front payload o ≡ Short)
login_told payload None e = cc
login_told payload (Some n) e = cc

whole_told : (b : Bool) (w : Front) (p : ClientPacket) (n : ℕ) → ¬ (w ≡ Short) → ¬ (cond b w (Whole p n) ≡ Short)
whole_told true w p n h e = h e
whole_told false w p n h e = cc

typed_short : (count : ℕ) (body : List ℕ) → typed_front count body ≡ Short → (length body ≡ 0) ⊎ (length body < count)
typed_short count [] e = inl refl
typed_short count (kind ∷ body) e =
    let s = told_short (not (is_client_type kind)) ((kind == login_request) && not (count == login_length)) (nat_lt (length body) (count - 1)) _ _ (whole_front kind (take (count - 1) body)) (whole_told (kind == login_request) _ _ _ (login_told (take (count - 1) body) _)) e in
    let l = ltb-true (length body) (count - 1) s in
    inr (omega (arith, l))

counted_short : (b : Bool) (x : SoupFault) (w : Front) → cond b (Faulty x) w ≡ Short → w ≡ Short
counted_short true x w e = cc
counted_short false x w e = e

short_len : (bytes : List ℕ) → IsBytes bytes → front bytes ≡ Short → length bytes < longest_packet
unfolding front
short_len [] h e = omega arith
short_len (x ∷ []) h e = omega arith
short_len (x ∷ y ∷ body) h e =
    elim (typed_short (256 * x + y) body (counted_short ((256 * x + y) == 0) _ _ e)) [
      | inl l ↦ omega (arith, l)
      | inr l ↦ omega (arith, l, h 0, h 1)
    ]

pub rest_len : (n : ℕ) (bytes : List ℕ) → length bytes ≤ n → IsBytes bytes → length (packets_of bytes).rest < longest_packet
rest_len zero bytes k h = let e = nil_from_length bytes (omega arith) in rw (e, packets_nil) (omega arith)
rest_len (suc n) bytes k h = go (λ rest. rest_len n rest) (front bytes) refl
  where
    go : ((rest : List ℕ) → length rest ≤ n → IsBytes rest → length (packets_of rest).rest < longest_packet) → (r : Front) → front bytes ≡ r → length (packets_of bytes).rest < longest_packet
    go again Short e = rw (packets_short bytes e) (short_len bytes h e)
    go again (Faulty f) e = rw (packets_faulty bytes f e) (omega arith)
    go again (Whole p t) e =
        let s = front_takes bytes p t e in
        rw (packets_whole bytes p t e) (again (drop t bytes) (simp length-drop (omega (arith, s.0))) (λ i. rw (get_or-drop t bytes i 0) (h (t + i))))

pub rest_bounded : (bytes : List ℕ) (ps : List ClientPacket) (fault : Option SoupFault) (left : List ℕ) → packets_of bytes ≡ record { packets = ps; fault = fault; rest = left } → IsBytes bytes → length left < longest_packet
rest_bounded bytes ps fault left e h = rw (ap (λ (s : Soup). s.rest) e) at (rest_len (length bytes) bytes (omega arith) h)
