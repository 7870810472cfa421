-- What stays true of the orders when they change.
use Rattle.std.proofs.{Common.{◌≡◌, ℕ, ◌<◌, Bool, true, false, cond, not, List, [], ◌∷◌, ◌++◌, refl, ◌∙◌, sym, ap, subst, arith, if◌then◌else◌}, lemmas.{Bool.{ne_eqb, eqb-true, lt-ltb}, Option.same_Some}}
use Rattle.std.specs.{Prelude.{Some, None}, List.{filter, find, AllByRecursion}}
use Rattle.gx_units.proofs.Lists_hold.{all_weaker, all_next, filtered}
use Rattle.gx_history.specs.declared.live_order.LiveOrder.{LiveOrder}
use Rattle.gx_orders.specs.LiveOrders.{NumbersRise, IsOpen, is_open, open_ones, has_number, with_order_changed, without_number}

-- the number is above this one
abbrev pub IsAbove : ℕ → LiveOrder → Type 0
IsAbove n o = n < o.number

-- the number is below this one
abbrev pub IsBelow : ℕ → LiveOrder → Type 0
IsBelow n o = o.number < n

-- an order of another number is not changed, taken out or found
other_number : (n : ℕ) (o : LiveOrder) → IsAbove n o → has_number n o ≡ false
other_number n o above = ne_eqb o.number n (λ same. absurd (omega arith))

pub none_changed : (f : LiveOrder → LiveOrder) (n : ℕ) (os : List LiveOrder) → AllByRecursion (IsAbove n) os → with_order_changed f n os ≡ os
none_changed f n [] above = refl
none_changed f n (o ∷ os) above =
    ap (λ (b : Bool). (if b then f o else o) ∷ with_order_changed f n os) (other_number n o above.0)
    ∙ ap (λ (rest : List LiveOrder). o ∷ rest) (none_changed f n os above.1)

pub none_taken : (n : ℕ) (os : List LiveOrder) → AllByRecursion (IsAbove n) os → without_number n os ≡ os
none_taken n [] above = refl
none_taken n (o ∷ os) above =
    ap (λ (b : Bool). cond (not b) (o ∷ without_number n os) (without_number n os)) (other_number n o above.0)
    ∙ ap (λ (rest : List LiveOrder). o ∷ rest) (none_taken n os above.1)

-- numbers go on to rise

pub rise_chosen : (p : LiveOrder → Bool) (live : List LiveOrder) → NumbersRise live → NumbersRise (filter p live)
rise_chosen p [] rise = tt
rise_chosen p (o ∷ os) rise = at (p o) (filtered (λ (q : LiveOrder). o.number < q.number) p os rise.0) (rise_chosen p os rise.1)
  where
    at : (b : Bool) → AllByRecursion (λ (q : LiveOrder). o.number < q.number) (filter p os) → NumbersRise (filter p os) → NumbersRise (cond b (o ∷ filter p os) (filter p os))
    at true above later = (above, later)
    at false above later = later

pub rise_next : (live : List LiveOrder) (o : LiveOrder) → NumbersRise live → AllByRecursion (IsBelow o.number) live → NumbersRise (live ++ o ∷ [])
rise_next [] o rise below = (tt, tt)
rise_next (p ∷ ps) o rise below = (all_next (λ (q : LiveOrder). p.number < q.number) ps o rise.0 below.0, rise_next ps o rise.1 below.1)

-- what holds of each order holds of each after a change that keeps it
pub all_changed : (P : LiveOrder → Type 0) (f : LiveOrder → LiveOrder) (n : ℕ) → ((o : LiveOrder) → has_number n o ≡ true → P o → P (f o)) → (live : List LiveOrder) → AllByRecursion P live
    → AllByRecursion P (with_order_changed f n live)
all_changed P f n step [] h = tt
all_changed P f n step (o ∷ os) h = (at (has_number n o) refl h.0, all_changed P f n step os h.1)
  where
    at : (b : Bool) → has_number n o ≡ b → P o → P (if b then f o else o)
    at true e p = step o e p
    at false e p = p

pub rise_changed : (f : LiveOrder → LiveOrder) (n : ℕ) → ((o : LiveOrder) → has_number n o ≡ true → (f o).number ≡ o.number) → (live : List LiveOrder) → NumbersRise live → NumbersRise (with_order_changed f n live)
rise_changed f n same [] rise = tt
rise_changed f n same (o ∷ os) rise =
    (at (has_number n o) refl (all_changed (λ (q : LiveOrder). o.number < q.number) f n (λ q e p. still (same q e) p) os rise.0), rise_changed f n same os rise.1)
  where
    still : {k m : ℕ} → k ≡ m → o.number < m → o.number < k
    still e p = omega arith

    at : (b : Bool) → has_number n o ≡ b → AllByRecursion (λ (q : LiveOrder). o.number < q.number) (with_order_changed f n os)
        → AllByRecursion (λ (q : LiveOrder). (if b then f o else o).number < q.number) (with_order_changed f n os)
    at true e above = subst (λ (k : ℕ). AllByRecursion (λ (q : LiveOrder). k < q.number) (with_order_changed f n os)) (sym (same o e)) above
    at false e above = above

pub behind : (n : ℕ) (o : LiveOrder) (os : List LiveOrder) → o.number ≡ n → AllByRecursion (λ (p : LiveOrder). o.number < p.number) os → AllByRecursion (IsAbove n) os
behind n o os same above = all_weaker (λ (p : LiveOrder). o.number < p.number) (IsAbove n) (λ p h. omega (arith, same, h)) os above

-- all open
pub none_shut : (live : List LiveOrder) → AllByRecursion IsOpen live → open_ones live ≡ live
none_shut [] h = refl
none_shut (o ∷ os) h = ap (λ (b : Bool). cond b (o ∷ open_ones os) (open_ones os)) (lt-ltb o.done o.total h.0) ∙ ap (λ (rest : List LiveOrder). o ∷ rest) (none_shut os h.1)

-- a change that leaves the order of this number nothing open takes it out
pub shut : (f : LiveOrder → LiveOrder) (n : ℕ) → ((o : LiveOrder) → has_number n o ≡ true → is_open (f o) ≡ false) → (live : List LiveOrder) → AllByRecursion IsOpen live
    → open_ones (with_order_changed f n live) ≡ without_number n live
shut f n closes [] h = refl
shut f n closes (o ∷ os) h = at (has_number n o) refl ∙ again (shut f n closes os h.1)
  where
    again : open_ones (with_order_changed f n os) ≡ without_number n os → cond (not (has_number n o)) (o ∷ open_ones (with_order_changed f n os)) (open_ones (with_order_changed f n os)) ≡ without_number n (o ∷ os)
    again later = ap (λ (rest : List LiveOrder). cond (not (has_number n o)) (o ∷ rest) rest) later

    at : (b : Bool) → has_number n o ≡ b → open_ones ((if b then f o else o) ∷ with_order_changed f n os) ≡ cond (not b) (o ∷ open_ones (with_order_changed f n os)) (open_ones (with_order_changed f n os))
    at true e = ap (λ (b : Bool). cond b (f o ∷ open_ones (with_order_changed f n os)) (open_ones (with_order_changed f n os))) (closes o e)
    at false e = ap (λ (b : Bool). cond b (o ∷ open_ones (with_order_changed f n os)) (open_ones (with_order_changed f n os))) (lt-ltb o.done o.total h.0)

-- two changes that agree on the order of this number
pub changed_alike : (f g : LiveOrder → LiveOrder) (n : ℕ) (live : List LiveOrder) (o : LiveOrder) → NumbersRise live → find (has_number n) live ≡ Some o → f o ≡ g o → with_order_changed f n live ≡ with_order_changed g n live
changed_alike f g n [] o rise found same = cc
changed_alike f g n (p ∷ ps) o rise found same = at (has_number n p) refl found (λ later. changed_alike f g n ps o rise.1 later same)
  where
    at : (b : Bool) → has_number n p ≡ b → cond b (Some p) (find (has_number n) ps) ≡ Some o → (find (has_number n) ps ≡ Some o → with_order_changed f n ps ≡ with_order_changed g n ps)
        → (if b then f p else p) ∷ with_order_changed f n ps ≡ (if b then g p else p) ∷ with_order_changed g n ps
    at true e is later =
        let it : p ≡ o = same_Some _ _ is in
        ap (λ (x : LiveOrder). x ∷ with_order_changed f n ps) (ap f it ∙ same ∙ sym (ap g it))
        ∙ ap (λ (rest : List LiveOrder). g p ∷ rest) (none_changed f n ps (behind n p ps (eqb-true p.number n e) rise.0) ∙ sym (none_changed g n ps (behind n p ps (eqb-true p.number n e) rise.0)))
    at false e is later = ap (λ (rest : List LiveOrder). p ∷ rest) (later is)

-- where no order has the number nothing changes
pub changed_nowhere : (f : LiveOrder → LiveOrder) (n : ℕ) (live : List LiveOrder) → find (has_number n) live ≡ None → with_order_changed f n live ≡ live
changed_nowhere f n [] found = refl
changed_nowhere f n (p ∷ ps) found = at (has_number n p) found (λ later. changed_nowhere f n ps later)
  where
    at : (b : Bool) → cond b (Some p) (find (has_number n) ps) ≡ None → (find (has_number n) ps ≡ None → with_order_changed f n ps ≡ ps) → (if b then f p else p) ∷ with_order_changed f n ps ≡ p ∷ ps
    at true is later = cc
    at false is later = ap (λ (rest : List LiveOrder). p ∷ rest) (later is)

pub found_has_number : (n : ℕ) (live : List LiveOrder) (o : LiveOrder) → find (has_number n) live ≡ Some o → o.number ≡ n
found_has_number n [] o found = cc
found_has_number n (p ∷ ps) o found = at (has_number n p) refl found (λ later. found_has_number n ps o later)
  where
    at : (b : Bool) → has_number n p ≡ b → cond b (Some p) (find (has_number n) ps) ≡ Some o → (find (has_number n) ps ≡ Some o → o.number ≡ n) → o.number ≡ n
    at true e is later = sym (ap (λ (x : LiveOrder). x.number) (same_Some _ _ is)) ∙ eqb-true p.number n e
    at false e is later = later is
