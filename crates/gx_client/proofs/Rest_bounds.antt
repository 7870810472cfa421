-- How much is left over.
use Rattle.gx_units.proofs.Lists_hold.{IsBytes}
use Rattle.std.proofs.{Common.{◌≡◌, ℕ, zero, suc, ◌+◌, ◌-◌, ◌*◌, ◌<◌, ◌≤◌, ◌⊎◌, inl, inr, Bool, true, false, cond, not, ◌==◌, nat_lt, List, [], ◌∷◌, length, take, drop, get_or, Option, Some, None, refl, ap, arith}, lemmas.{Bool.ltb-true, List.{nil_from_length, get_or-drop, length-drop}}}
use Rattle.gx_soup.specs.{declared.packet.ServerPacket.ServerPacket, Standard.{login_accepted, login_rejected, longest_packet}}
use Rattle.gx_units.specs.declared.names.LoginRejection.{LoginRejection}
use Rattle.gx_client.specs.{declared.front.{ServerFault.ServerFault, ServerFront.{ServerFront, TheVariants.{Short, Faulty, Whole}}}, ServerPackets.{server_front, server_typed_front, server_whole_front, accepted_front, rejected_front, is_server_type, has_its_length, ServerSoup, server_packets_of}}
use Rattle.gx_client.proofs.Packets_next.{packets_short, packets_faulty, packets_whole, packets_nil, front_takes}

told_short : (u l s : Bool) (x y : ServerFault) (w : ServerFront) → ¬ (w ≡ Short) → cond u (Faulty x) (cond l (Faulty y) (cond s Short w)) ≡ Short → s ≡ true
told_short true l s x y w h e = cc
told_short false true s x y w h e = cc
told_short false false true x y w h e = refl
told_short false false false x y w h e = absurd (h e)

accepted_told : (payload : List ℕ) (o : Option ℕ) → ¬ (accepted_front payload o ≡ Short)
accepted_told payload None e = cc
accepted_told payload (Some n) e = cc

rejected_told : (payload : List ℕ) (o : Option LoginRejection) → ¬ (rejected_front payload o ≡ Short)
rejected_told payload None e = cc
rejected_told payload (Some why) e = cc

either_told : (a j : Bool) (v w : ServerFront) (p : Option ServerPacket) (n : ℕ) → ¬ (v ≡ Short) → ¬ (w ≡ Short) → ¬ (cond a v (cond j w (Whole p n)) ≡ Short)
either_told true j v w p n h k e = h e
either_told false true v w p n h k e = k e
either_told false false v w p n h k e = cc

whole_told : (kind : ℕ) (payload : List ℕ) → ¬ (server_whole_front kind payload ≡ Short)
whole_told kind payload = either_told (kind == login_accepted) (kind == login_rejected) _ _ _ _ (accepted_told payload _) (rejected_told payload _)

typed_short : (count : ℕ) (body : List ℕ) → server_typed_front count body ≡ Short → (length body ≡ 0) ⊎ (length body < count)
typed_short count [] e = inl refl
typed_short count (kind ∷ body) e =
    let s = told_short (not (is_server_type kind)) (not (has_its_length kind count)) (nat_lt (length body) (count - 1)) _ _ (server_whole_front kind (take (count - 1) body)) (whole_told kind (take (count - 1) body)) e in
    let l = ltb-true (length body) (count - 1) s in
    inr (omega (arith, l))

counted_short : (b : Bool) (x : ServerFault) (w : ServerFront) → cond b (Faulty x) w ≡ Short → w ≡ Short
counted_short true x w e = cc
counted_short false x w e = e

short_len : (bytes : List ℕ) → IsBytes bytes → server_front bytes ≡ Short → length bytes < longest_packet
unfolding server_front
short_len [] h e = omega arith
short_len (x ∷ []) h e = omega arith
short_len (x ∷ y ∷ body) h e =
    elim (typed_short (256 * x + y) body (counted_short ((256 * x + y) == 0) _ _ e)) [
      | inl l ↦ omega (arith, l)
      | inr l ↦ omega (arith, l, h 0, h 1)
    ]

pub rest_len : (n : ℕ) (bytes : List ℕ) → length bytes ≤ n → IsBytes bytes → length (server_packets_of bytes).rest < longest_packet
rest_len zero bytes k h = let e = nil_from_length bytes (omega arith) in rw (e, packets_nil) (omega arith)
rest_len (suc n) bytes k h = go (λ rest. rest_len n rest) (server_front bytes) refl
  where
    go : ((rest : List ℕ) → length rest ≤ n → IsBytes rest → length (server_packets_of rest).rest < longest_packet) → (r : ServerFront) → server_front bytes ≡ r → length (server_packets_of bytes).rest < longest_packet
    go again Short e = rw (packets_short bytes e) (short_len bytes h e)
    go again (Faulty f) e = rw (packets_faulty bytes f e) (omega arith)
    go again (Whole p t) e =
        let s = front_takes bytes p t e in
        rw (packets_whole bytes p t e) (again (drop t bytes) (simp length-drop (omega (arith, s.0))) (λ i. rw (get_or-drop t bytes i 0) (h (t + i))))

pub rest_bounded : (bytes : List ℕ) (ps : List ServerPacket) (fault : Option ServerFault) (left : List ℕ) → server_packets_of bytes ≡ record { packets = ps; fault = fault; rest = left } → IsBytes bytes → length left < longest_packet
rest_bounded bytes ps fault left e h = rw (ap (λ (s : ServerSoup). s.rest) e) at (rest_len (length bytes) bytes (omega arith) h)
