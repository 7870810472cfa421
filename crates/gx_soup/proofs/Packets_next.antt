-- The laws of `front` and of `packets_of`: a text that goes on, and one packet after another.
use Rattle.std.proofs.{Common.{◌≡◌, ℕ, zero, suc, ◌+◌, ◌-◌, ◌*◌, ◌<◌, ◌≤◌, ◌⊎◌, inl, inr, Bool, true, false, cond, not, ◌&&◌, nat_lt, ◌==◌, List, [], ◌∷◌, ◌++◌, length, take, drop, Option, Some, None, refl, sym, ap, ◌∙◌, arith}, lemmas.{Bool.{Decides.nat_tests, ltb-false, le-ltb}, List.{nil_from_length, drop-append-le, take-append-le, length-take-le, length-drop, length-append}}}
use Rattle.gx_soup.specs.{declared.{packet.{ClientPacket.ClientPacket, SoupFault.SoupFault}}, Standard.{login_request, login_length}, Packets.{Front, Short, Faulty, Whole, front, typed_front, whole_front, login_front, is_client_type, Soup, with_packet, soup_from, soup_within, packets_of}}

-- packets that stand before those of a text
abbrev pub behind : List ClientPacket → Soup → Soup
behind ps soup = record { packets = ps ++ soup.packets; fault = soup.fault; rest = soup.rest }

-- a text that goes on: nothing follows a fault
abbrev pub joined : Soup → Option SoupFault → List ℕ → Soup
joined soup (Some f) more = soup
joined soup None more = behind soup.packets (packets_of (soup.rest ++ more))

chosen_grows : (u l s s' : Bool) (x y w w' : Front) → (s ≡ false → (s' ≡ false) × (w' ≡ w)) → ¬ (cond u x (cond l y (cond s Short w)) ≡ Short) → cond u x (cond l y (cond s' Short w')) ≡ cond u x (cond l y (cond s Short w))
chosen_grows true l s s' x y w w' k h = refl
chosen_grows false true s s' x y w w' k h = refl
chosen_grows false false true s' x y w w' k h = absurd (h refl)
chosen_grows false false false s' x y w w' k h = rw ((k refl).0, (k refl).1) refl

pub body_grows : (n : ℕ) (a b : List ℕ) → nat_lt (length a) n ≡ false → (nat_lt (length (a ++ b)) n ≡ false) × (take n (a ++ b) ≡ take n a)
body_grows n a b h =
    let enough : n ≤ length a = ltb-false (length a) n h in
    (le-ltb (length (a ++ b)) n (simp length-append (omega arith)), take-append-le n a b enough)

typed_grows : (count : ℕ) (a b : List ℕ) → ¬ (typed_front count a ≡ Short) → typed_front count (a ++ b) ≡ typed_front count a
typed_grows count [] b h = absurd (h refl)
typed_grows count (kind ∷ body) b h =
    chosen_grows (not (is_client_type kind)) ((kind == login_request) && not (count == login_length)) (nat_lt (length body) (count - 1)) (nat_lt (length (body ++ b)) (count - 1)) _ _ (whole_front kind (take (count - 1) body)) (whole_front kind (take (count - 1) (body ++ b)))
    (λ s. let g = body_grows (count - 1) body b s in (g.0, ap (whole_front kind) g.1)) h

counted_grows : (z : Bool) (x w w' : Front) → (¬ (w ≡ Short) → w' ≡ w) → ¬ (cond z x w ≡ Short) → cond z x w' ≡ cond z x w
counted_grows true x w w' k h = refl
counted_grows false x w w' k h = k h

-- what was told stays told
pub front_grows : (a b : List ℕ) → ¬ (front a ≡ Short) → front (a ++ b) ≡ front a
unfolding front
front_grows [] b h = absurd (h refl)
front_grows (x ∷ []) b h = absurd (h refl)
front_grows (x ∷ y ∷ body) b h = counted_grows ((256 * x + y) == 0) _ (typed_front (256 * x + y) body) (typed_front (256 * x + y) (body ++ b)) (typed_grows (256 * x + y) body b) h

pub front_grows_whole : (a b : List ℕ) (p : ClientPacket) (t : ℕ) → front a ≡ Whole p t → front (a ++ b) ≡ Whole p t
front_grows_whole a b p t e = front_grows a b (λ s. cc) ∙ e

pub front_grows_faulty : (a b : List ℕ) (f : SoupFault) → front a ≡ Faulty f → front (a ++ b) ≡ Faulty f
front_grows_faulty a b f e = front_grows a b (λ s. cc) ∙ e

picked : (u l s : Bool) (x y : SoupFault) (w : Front) (p : ClientPacket) (t : ℕ) → cond u (Faulty x) (cond l (Faulty y) (cond s Short w)) ≡ Whole p t → (l ≡ false) × (s ≡ false) × (w ≡ Whole p t)
picked true l s x y w p t e = cc
picked false true s x y w p t e = cc
picked false false true x y w p t e = cc
picked false false false x y w p t e = (refl, refl, e)

whole_cases : (b : Bool) (login : Front) (q : ClientPacket) (n : ℕ) (p : ClientPacket) (t : ℕ) → cond b login (Whole q n) ≡ Whole p t → ((b ≡ true) × (login ≡ Whole p t)) ⊎ (n ≡ t)
whole_cases true login q n p t e = inl (refl, e)
whole_cases false login q n p t e = inr cc

login_takes : (payload : List ℕ) (o : Option ℕ) (p : ClientPacket) (t : ℕ) → login_front payload o ≡ Whole p t → t ≡ 49
login_takes payload None p t e = cc
login_takes payload (Some n) p t e = cc

typed_takes : (count : ℕ) (body : List ℕ) (p : ClientPacket) (t : ℕ) → 0 < count → typed_front count body ≡ Whole p t → (3 ≤ t) × (t ≤ length body + 2)
typed_takes count [] p t pos e = cc
typed_takes count (kind ∷ body) p t pos e =
    let k = picked (not (is_client_type kind)) ((kind == login_request) && not (count == login_length)) (nat_lt (length body) (count - 1)) _ _ (whole_front kind (take (count - 1) body)) p t e in
    let enough : count - 1 ≤ length body = ltb-false _ _ k.1 in
    let len : length (take (count - 1) body) ≡ count - 1 = length-take-le (count - 1) body enough in
    elim (whole_cases (kind == login_request) _ _ (length (take (count - 1) body) + 3) p t k.2) [
      | inl w ↦ (let n : t ≡ 49 = login_takes _ _ p t w.1 in let c : count ≡ login_length = is_login (kind == login_request) count w.0 k.0 in (omega arith, omega arith))
      | inr w ↦ (omega arith, omega arith)
    ]
  where
    is_login : (b : Bool) (c : ℕ) → b ≡ true → (b && not (c == login_length)) ≡ false → c ≡ login_length
    is_login true c h e = grind (arith, nat_tests)
    is_login false c h e = cc

counted_takes : (z : Bool) (x : SoupFault) (w : Front) (p : ClientPacket) (t : ℕ) → cond z (Faulty x) w ≡ Whole p t → (z ≡ false) × (w ≡ Whole p t)
counted_takes true x w p t e = cc
counted_takes false x w p t e = (refl, e)

-- a packet has three bytes at least, and lies in the text
pub front_takes : (bytes : List ℕ) (p : ClientPacket) (t : ℕ) → front bytes ≡ Whole p t → (3 ≤ t) × (t ≤ length bytes)
unfolding front
front_takes [] p t e = cc
front_takes (x ∷ []) p t e = cc
front_takes (x ∷ y ∷ body) p t e =
    let k = counted_takes ((256 * x + y) == 0) _ (typed_front (256 * x + y) body) p t e in
    let r = typed_takes (256 * x + y) body p t (above (256 * x + y) k.0) k.1 in
    (r.0, omega (arith, r.1))
  where
    above : (n : ℕ) → (n == 0) ≡ false → 0 < n
    above n h = grind (arith, nat_tests)

soup_empty : (n : ℕ) → soup_within n [] ≡ record { packets = []; fault = None; rest = [] }
unfolding front
soup_empty zero = refl
soup_empty (suc n) = refl

step_at : (n : ℕ) (bytes : List ℕ) (r : Front) → front bytes ≡ r → soup_within (suc n) bytes ≡ soup_from (λ rest. soup_within n rest) bytes r
step_at n bytes r e = ap (soup_from (λ rest. soup_within n rest) bytes) e

-- more room than bytes changes nothing
soup_same : (m n : ℕ) (bytes : List ℕ) → length bytes ≤ m → length bytes ≤ n → soup_within m bytes ≡ soup_within n bytes
soup_same zero zero bytes h k = refl
soup_same zero (suc n) bytes h k = let e = nil_from_length bytes (omega arith) in rw e (sym (soup_empty (suc n)))
soup_same (suc m) zero bytes h k = let e = nil_from_length bytes (omega arith) in rw e (soup_empty (suc m))
soup_same (suc m) (suc n) bytes h k = go (λ rest. soup_same m n rest) (front bytes) refl
  where
    go : ((rest : List ℕ) → length rest ≤ m → length rest ≤ n → soup_within m rest ≡ soup_within n rest) → (r : Front) → front bytes ≡ r → soup_within (suc m) bytes ≡ soup_within (suc n) bytes
    go again Short e = step_at m bytes _ e ∙ sym (step_at n bytes _ e)
    go again (Faulty f) e = step_at m bytes _ e ∙ sym (step_at n bytes _ e)
    go again (Whole p t) e =
        let s = front_takes bytes p t e in
        step_at m bytes _ e ∙ (ap (with_packet p) (again (drop t bytes) (simp length-drop (omega (arith, s.0))) (simp length-drop (omega (arith, s.0)))) ∙ sym (step_at n bytes _ e))

more_room : (bytes : List ℕ) → packets_of bytes ≡ soup_within (suc (length bytes)) bytes
unfolding packets_of
more_room bytes = soup_same (length bytes) (suc (length bytes)) bytes (omega arith) (omega arith)

pub packets_short : (bytes : List ℕ) → front bytes ≡ Short → packets_of bytes ≡ record { packets = []; fault = None; rest = bytes }
packets_short bytes e = more_room bytes ∙ step_at (length bytes) bytes _ e

pub packets_faulty : (bytes : List ℕ) (f : SoupFault) → front bytes ≡ Faulty f → packets_of bytes ≡ record { packets = []; fault = Some f; rest = [] }
packets_faulty bytes f e = more_room bytes ∙ step_at (length bytes) bytes _ e

pub packets_whole : (bytes : List ℕ) (p : ClientPacket) (t : ℕ) → front bytes ≡ Whole p t → packets_of bytes ≡ with_packet p (packets_of (drop t bytes))
packets_whole bytes p t e =
    let s = front_takes bytes p t e in
    more_room bytes ∙ (step_at (length bytes) bytes _ e ∙ ap (with_packet p) (unfold packets_of in soup_same (length bytes) (length (drop t bytes)) (drop t bytes) (simp length-drop (omega arith)) (omega arith)))

pub packets_nil : packets_of [] ≡ record { packets = []; fault = None; rest = [] }
unfolding packets_of
packets_nil = refl

with_joined : (p : ClientPacket) (s : Soup) (f : Option SoupFault) (b : List ℕ) → with_packet p (joined s f b) ≡ joined (with_packet p s) f b
with_joined p s None b = refl
with_joined p s (Some f) b = refl

-- the packets of a text that goes on
pub packets_join_within : (n : ℕ) (a b : List ℕ) → length a ≤ n → packets_of (a ++ b) ≡ joined (packets_of a) (packets_of a).fault b
packets_join_within zero a b h = let e = nil_from_length a (omega arith) in rw (e, packets_nil) refl
packets_join_within (suc n) a b h = go (λ rest. packets_join_within n rest b) (front a) refl
  where
    go : ((rest : List ℕ) → length rest ≤ n → packets_of (rest ++ b) ≡ joined (packets_of rest) (packets_of rest).fault b) → (r : Front) → front a ≡ r → packets_of (a ++ b) ≡ joined (packets_of a) (packets_of a).fault b
    go again Short e = rw (packets_short a e) refl
    go again (Faulty f) e = packets_faulty (a ++ b) f (front_grows_faulty a b f e) ∙ sym (ap (λ s. joined s s.fault b) (packets_faulty a f e))
    go again (Whole p t) e =
        let s = front_takes a p t e in
        let inner = again (drop t a) (simp length-drop (omega (arith, s.0))) in
        let cut : drop t (a ++ b) ≡ drop t a ++ b = drop-append-le t a b s.1 in
        packets_whole (a ++ b) p t (front_grows_whole a b p t e) ∙ (ap (λ x. with_packet p (packets_of x)) cut ∙ (ap (with_packet p) inner ∙ (with_joined p (packets_of (drop t a)) (packets_of (drop t a)).fault b ∙ sym (ap (λ s. joined s s.fault b) (packets_whole a p t e)))))

pub packets_join : (a b : List ℕ) → packets_of (a ++ b) ≡ joined (packets_of a) (packets_of a).fault b
packets_join a b = packets_join_within (length a) a b (omega arith)
