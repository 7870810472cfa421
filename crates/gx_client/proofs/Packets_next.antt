-- The laws of `server_front` and of `server_packets_of`: a text that goes on, and one packet after another.
use Rattle.std.proofs.{Common.{◌≡◌, ℕ, zero, suc, ◌+◌, ◌-◌, ◌*◌, ◌<◌, ◌≤◌, Bool, true, false, cond, not, nat_lt, ◌==◌, List, [], ◌∷◌, ◌++◌, length, take, drop, Option, Some, None, refl, sym, ap, ◌∙◌, append_assoc, slice_index, slice_range, arith}, lemmas.{Bool.{Decides.nat_tests, ltb-false}, List.{nil_from_length, drop-append-le, length-take-le, length-drop}}}
use Rattle.gx_soup.specs.{declared.packet.ServerPacket.ServerPacket, Standard.{login_accepted, login_rejected}, Login.number_of}
use Rattle.gx_client.specs.{declared.front.{ServerFault.ServerFault, ServerFront.{ServerFront, TheVariants.{Short, Faulty, Whole}}}, ServerPackets.{server_front, server_typed_front, server_whole_front, accepted_front, rejected_front, rejection_of, plain_server_packet, is_server_type, has_its_length, ServerSoup, packets_behind, server_soup_from, server_soup_within, server_packets_of}}
use Rattle.std.specs.Option.{option_to_list}
use Rattle.gx_units.specs.declared.names.LoginRejection.{LoginRejection}
use Rattle.gx_soup.proofs.Packets_next.{body_grows}

-- a text that goes on: nothing follows a fault
abbrev pub joined : ServerSoup → Option ServerFault → List ℕ → ServerSoup
joined soup (Some f) more = soup
joined soup None more = packets_behind soup.packets (server_packets_of (soup.rest ++ more))

chosen_grows : (u l s s' : Bool) (x y w w' : ServerFront) → (s ≡ false → (s' ≡ false) × (w' ≡ w)) → ¬ (cond u x (cond l y (cond s Short w)) ≡ Short) → cond u x (cond l y (cond s' Short w')) ≡ cond u x (cond l y (cond s Short w))
chosen_grows true l s s' x y w w' k h = refl
chosen_grows false true s s' x y w w' k h = refl
chosen_grows false false true s' x y w w' k h = absurd (h refl)
chosen_grows false false false s' x y w w' k h = rw ((k refl).0, (k refl).1) refl

typed_grows : (count : ℕ) (a b : List ℕ) → ¬ (server_typed_front count a ≡ Short) → server_typed_front count (a ++ b) ≡ server_typed_front count a
typed_grows count [] b h = absurd (h refl)
typed_grows count (kind ∷ body) b h =
    chosen_grows (not (is_server_type kind)) (not (has_its_length kind count)) (nat_lt (length body) (count - 1)) (nat_lt (length (body ++ b)) (count - 1)) _ _ (server_whole_front kind (take (count - 1) body)) (server_whole_front kind (take (count - 1) (body ++ b)))
    (λ s. let g = body_grows (count - 1) body b s in (g.0, ap (server_whole_front kind) g.1)) h

counted_grows : (z : Bool) (x w w' : ServerFront) → (¬ (w ≡ Short) → w' ≡ w) → ¬ (cond z x w ≡ Short) → cond z x w' ≡ cond z x w
counted_grows true x w w' k h = refl
counted_grows false x w w' k h = k h

-- what was told stays told
pub front_grows : (a b : List ℕ) → ¬ (server_front a ≡ Short) → server_front (a ++ b) ≡ server_front a
unfolding server_front
front_grows [] b h = absurd (h refl)
front_grows (x ∷ []) b h = absurd (h refl)
front_grows (x ∷ y ∷ body) b h = counted_grows ((256 * x + y) == 0) _ (server_typed_front (256 * x + y) body) (server_typed_front (256 * x + y) (body ++ b)) (typed_grows (256 * x + y) body b) h

pub front_grows_whole : (a b : List ℕ) (p : Option ServerPacket) (t : ℕ) → server_front a ≡ Whole p t → server_front (a ++ b) ≡ Whole p t
front_grows_whole a b p t e = front_grows a b (λ s. cc) ∙ e

pub front_grows_faulty : (a b : List ℕ) (f : ServerFault) → server_front a ≡ Faulty f → server_front (a ++ b) ≡ Faulty f
front_grows_faulty a b f e = front_grows a b (λ s. cc) ∙ e

picked : (u l s : Bool) (x y : ServerFault) (w : ServerFront) (p : Option ServerPacket) (t : ℕ) → cond u (Faulty x) (cond l (Faulty y) (cond s Short w)) ≡ Whole p t → (l ≡ false) × (s ≡ false) × (w ≡ Whole p t)
picked true l s x y w p t e = cc
picked false true s x y w p t e = cc
picked false false true x y w p t e = cc
picked false false false x y w p t e = (refl, refl, e)

accepted_takes : (payload : List ℕ) (o : Option ℕ) (p : Option ServerPacket) (t : ℕ) → accepted_front payload o ≡ Whole p t → length payload + 3 ≡ t
accepted_takes payload None p t e = cc
accepted_takes payload (Some n) p t e = cc

rejected_takes : (payload : List ℕ) (o : Option LoginRejection) (p : Option ServerPacket) (t : ℕ) → rejected_front payload o ≡ Whole p t → length payload + 3 ≡ t
rejected_takes payload None p t e = cc
rejected_takes payload (Some why) p t e = cc

either_takes : (a j : Bool) (payload : List ℕ) (n : Option ℕ) (why : Option LoginRejection) (q : Option ServerPacket) (p : Option ServerPacket) (t : ℕ)
    → cond a (accepted_front payload n) (cond j (rejected_front payload why) (Whole q (length payload + 3))) ≡ Whole p t → length payload + 3 ≡ t
either_takes true j payload n why q p t e = accepted_takes payload n p t e
either_takes false true payload n why q p t e = rejected_takes payload why p t e
either_takes false false payload n why q p t e = cc

whole_takes : (kind : ℕ) (payload : List ℕ) (p : Option ServerPacket) (t : ℕ) → server_whole_front kind payload ≡ Whole p t → length payload + 3 ≡ t
whole_takes kind payload p t e =
    either_takes (kind == login_accepted) (kind == login_rejected) payload (number_of (slice_range payload 10 30)) (rejection_of (slice_index payload 0)) (plain_server_packet kind payload) p t e

typed_takes : (count : ℕ) (body : List ℕ) (p : Option ServerPacket) (t : ℕ) → 0 < count → server_typed_front count body ≡ Whole p t → (3 ≤ t) × (t ≤ length body + 2)
typed_takes count [] p t pos e = cc
typed_takes count (kind ∷ body) p t pos e =
    let k = picked (not (is_server_type kind)) (not (has_its_length kind count)) (nat_lt (length body) (count - 1)) _ _ (server_whole_front kind (take (count - 1) body)) p t e in
    let enough : count - 1 ≤ length body = ltb-false _ _ k.1 in
    let len : length (take (count - 1) body) ≡ count - 1 = length-take-le (count - 1) body enough in
    let taken = whole_takes kind (take (count - 1) body) p t k.2 in
    (omega arith, omega arith)

counted_takes : (z : Bool) (x : ServerFault) (w : ServerFront) (p : Option ServerPacket) (t : ℕ) → cond z (Faulty x) w ≡ Whole p t → (z ≡ false) × (w ≡ Whole p t)
counted_takes true x w p t e = cc
counted_takes false x w p t e = (refl, e)

-- a packet has three bytes at least, and lies in the text
pub front_takes : (bytes : List ℕ) (p : Option ServerPacket) (t : ℕ) → server_front bytes ≡ Whole p t → (3 ≤ t) × (t ≤ length bytes)
unfolding server_front
front_takes [] p t e = cc
front_takes (x ∷ []) p t e = cc
front_takes (x ∷ y ∷ body) p t e =
    let k = counted_takes ((256 * x + y) == 0) _ (server_typed_front (256 * x + y) body) p t e in
    let r = typed_takes (256 * x + y) body p t (above (256 * x + y) k.0) k.1 in
    (r.0, omega (arith, r.1))
  where
    above : (n : ℕ) → (n == 0) ≡ false → 0 < n
    above n h = grind (arith, nat_tests)

soup_empty : (n : ℕ) → server_soup_within n [] ≡ record { packets = []; fault = None; rest = [] }
unfolding server_front
soup_empty zero = refl
soup_empty (suc n) = refl

step_at : (n : ℕ) (bytes : List ℕ) (r : ServerFront) → server_front bytes ≡ r → server_soup_within (suc n) bytes ≡ server_soup_from (λ rest. server_soup_within n rest) bytes r
step_at n bytes r e = ap (server_soup_from (λ rest. server_soup_within n rest) bytes) e

-- more room than bytes changes nothing
soup_same : (m n : ℕ) (bytes : List ℕ) → length bytes ≤ m → length bytes ≤ n → server_soup_within m bytes ≡ server_soup_within n bytes
soup_same zero zero bytes h k = refl
soup_same zero (suc n) bytes h k = let e = nil_from_length bytes (omega arith) in rw e (sym (soup_empty (suc n)))
soup_same (suc m) zero bytes h k = let e = nil_from_length bytes (omega arith) in rw e (soup_empty (suc m))
soup_same (suc m) (suc n) bytes h k = go (λ rest. soup_same m n rest) (server_front bytes) refl
  where
    go : ((rest : List ℕ) → length rest ≤ m → length rest ≤ n → server_soup_within m rest ≡ server_soup_within n rest) → (r : ServerFront) → server_front bytes ≡ r → server_soup_within (suc m) bytes ≡ server_soup_within (suc n) bytes
    go again Short e = step_at m bytes _ e ∙ sym (step_at n bytes _ e)
    go again (Faulty f) e = step_at m bytes _ e ∙ sym (step_at n bytes _ e)
    go again (Whole p t) e =
        let s = front_takes bytes p t e in
        step_at m bytes _ e ∙ (ap (packets_behind (option_to_list p)) (again (drop t bytes) (simp length-drop (omega (arith, s.0))) (simp length-drop (omega (arith, s.0)))) ∙ sym (step_at n bytes _ e))

more_room : (bytes : List ℕ) → server_packets_of bytes ≡ server_soup_within (suc (length bytes)) bytes
unfolding server_packets_of
more_room bytes = soup_same (length bytes) (suc (length bytes)) bytes (omega arith) (omega arith)

pub packets_short : (bytes : List ℕ) → server_front bytes ≡ Short → server_packets_of bytes ≡ record { packets = []; fault = None; rest = bytes }
packets_short bytes e = more_room bytes ∙ step_at (length bytes) bytes _ e

pub packets_faulty : (bytes : List ℕ) (f : ServerFault) → server_front bytes ≡ Faulty f → server_packets_of bytes ≡ record { packets = []; fault = Some f; rest = [] }
packets_faulty bytes f e = more_room bytes ∙ step_at (length bytes) bytes _ e

pub packets_whole : (bytes : List ℕ) (p : Option ServerPacket) (t : ℕ) → server_front bytes ≡ Whole p t → server_packets_of bytes ≡ packets_behind (option_to_list p) (server_packets_of (drop t bytes))
packets_whole bytes p t e =
    let s = front_takes bytes p t e in
    more_room bytes ∙ (step_at (length bytes) bytes _ e ∙ ap (packets_behind (option_to_list p)) (unfold server_packets_of in soup_same (length bytes) (length (drop t bytes)) (drop t bytes) (simp length-drop (omega arith)) (omega arith)))

pub packets_nil : server_packets_of [] ≡ record { packets = []; fault = None; rest = [] }
unfolding server_packets_of
packets_nil = refl

with_joined : (p : Option ServerPacket) (s : ServerSoup) (f : Option ServerFault) (b : List ℕ) → packets_behind (option_to_list p) (joined s f b) ≡ joined (packets_behind (option_to_list p) s) f b
with_joined p s None b =
    let q = server_packets_of (s.rest ++ b) in
    ap (λ (ps : List ServerPacket). record { packets = ps; fault = q.fault; rest = q.rest }) (sym (append_assoc (option_to_list p) s.packets q.packets))
with_joined p s (Some f) b = refl

-- the packets of a text that goes on
pub packets_join_within : (n : ℕ) (a b : List ℕ) → length a ≤ n → server_packets_of (a ++ b) ≡ joined (server_packets_of a) (server_packets_of a).fault b
packets_join_within zero a b h = let e = nil_from_length a (omega arith) in rw (e, packets_nil) refl
packets_join_within (suc n) a b h = go (λ rest. packets_join_within n rest b) (server_front a) refl
  where
    go : ((rest : List ℕ) → length rest ≤ n → server_packets_of (rest ++ b) ≡ joined (server_packets_of rest) (server_packets_of rest).fault b) → (r : ServerFront) → server_front a ≡ r → server_packets_of (a ++ b) ≡ joined (server_packets_of a) (server_packets_of a).fault b
    go again Short e = rw (packets_short a e) refl
    go again (Faulty f) e = packets_faulty (a ++ b) f (front_grows_faulty a b f e) ∙ sym (ap (λ s. joined s s.fault b) (packets_faulty a f e))
    go again (Whole p t) e =
        let s = front_takes a p t e in
        let inner = again (drop t a) (simp length-drop (omega (arith, s.0))) in
        let cut : drop t (a ++ b) ≡ drop t a ++ b = drop-append-le t a b s.1 in
        packets_whole (a ++ b) p t (front_grows_whole a b p t e) ∙ (ap (λ x. packets_behind (option_to_list p) (server_packets_of x)) cut ∙ (ap (packets_behind (option_to_list p)) inner ∙ (with_joined p (server_packets_of (drop t a)) (server_packets_of (drop t a)).fault b ∙ sym (ap (λ s. joined s s.fault b) (packets_whole a p t e)))))

pub packets_join : (a b : List ℕ) → server_packets_of (a ++ b) ≡ joined (server_packets_of a) (server_packets_of a).fault b
packets_join a b = packets_join_within (length a) a b (omega arith)
