-- The list in the order of prices has the best first.
use Rattle.std.proofs.{Common.{◌≡◌, Bool, true, false, not, List, [], ◌∷◌, ◌++◌, refl, cond, arith, fold}, lemmas.Bool.{le-ltb, both_ways, not-true}}
use Rattle.std.specs.List.{filter, AllByRecursion}
use Rattle.gx_units.specs.declared.names.Symbol.{Symbol}
use Rattle.gx_units.proofs.Lists_hold.{all_weaker, all_both, filtered, all_pass, all_parted}
use Rattle.gx_policy.specs.{declared.policy.PolicyData.PolicyData, Lists.{inserted_behind, IsInOrder}}
use Rattle.gx_history.specs.{declared.{live_order.LiveOrder.LiveOrder, «record».RecordData.RecordData}, Live.{ahead, side, by_time}}
use Rattle.gx_laws.proofs.{PriceOrder_filtered.IsRanking, BookSides_next.prices_rank}

-- y is no better than x
abbrev pub IsNoBetter : {X : Type 0} → (X → X → Bool) → X → X → Type 0
IsNoBetter better x y = better y x ≡ false

ordered_filter : {X : Type 0} (better : X → X → Bool) (p : X → Bool) (xs : List X) → IsInOrder better xs → IsInOrder better (filter p xs)
ordered_filter better p [] h = tt
ordered_filter {X} better p (x ∷ xs) h = at (p x) (ordered_filter better p xs h.1)
  where
    at : (b : Bool) → IsInOrder better (filter p xs) → IsInOrder better (cond b (x ∷ filter p xs) (filter p xs))
    at true rest = (filtered (IsNoBetter better x) p xs h.0, rest)
    at false rest = rest

ordered_both : {X : Type 0} (better : X → X → Bool) (us vs : List X) → IsInOrder better us → IsInOrder better vs → AllByRecursion (λ (u : X). AllByRecursion (IsNoBetter better u) vs) us → IsInOrder better (us ++ vs)
ordered_both better [] vs h k across = k
ordered_both better (u ∷ us) vs h k across = (all_both (IsNoBetter better u) us vs h.0 across.0, ordered_both better us vs h.1 k across.1)

-- one that is better than y is no worse than y
no_worse : {X : Type 0} (better : X → X → Bool) → IsRanking better → ((x : X) → better x x ≡ false) → (x y : X) → better x y ≡ true → better y x ≡ false
no_worse {X} better ranks alone x y h = at (better y x) refl
  where
    at : (b : Bool) → better y x ≡ b → b ≡ false
    at true e = absurd (both_ways _ (alone x) (ranks.goes_on x y x h e))
    at false e = refl

-- what x betters betters none that x does not
below : {X : Type 0} (better : X → X → Bool) → IsRanking better → (x u v : X) → better x u ≡ false → better x v ≡ true → better v u ≡ false
below {X} better ranks x u v h k = at (better v u) refl
  where
    at : (b : Bool) → better v u ≡ b → b ≡ false
    at true e = absurd (both_ways _ h (ranks.goes_on x v u k e))
    at false e = refl

ordered_placed : {X : Type 0} (better : X → X → Bool) → IsRanking better → ((x : X) → better x x ≡ false) → (xs : List X) (x : X) → IsInOrder better xs → IsInOrder better (inserted_behind better xs x)
ordered_placed {X} better ranks alone xs x h =
    ordered_both better (filter (λ y. not (better x y)) xs) (x ∷ filter (better x) xs) (ordered_filter better (λ y. not (better x y)) xs h)
    (all_weaker (λ y. better x y ≡ true) (IsNoBetter better x) (λ y k. no_worse better ranks alone x y k) (filter (better x) xs) (all_pass (better x) xs), ordered_filter better (better x) xs h)
    (all_weaker (λ u. not (better x u) ≡ true) (λ u. AllByRecursion (IsNoBetter better u) (x ∷ filter (better x) xs))
    (λ u k. (not-true (better x u) k, all_weaker (λ v. better x v ≡ true) (IsNoBetter better u) (λ v l. below better ranks x u v (not-true (better x u) k) l) (filter (better x) xs) (all_pass (better x) xs)))
    (filter (λ y. not (better x y)) xs) (all_pass (λ y. not (better x y)) xs))

pub ordered_by : {X : Type 0} (better : X → X → Bool) → IsRanking better → ((x : X) → better x x ≡ false) → (earlier xs : List X) → IsInOrder better earlier → IsInOrder better (fold (inserted_behind better) earlier xs)
ordered_by better ranks alone earlier [] h = h
ordered_by better ranks alone earlier (x ∷ xs) h = ordered_by better ranks alone (inserted_behind better earlier x) xs (ordered_placed better ranks alone earlier x h)

-- no price is better than itself
pub not_ahead_of_itself : (buy : Bool) (s : LiveOrder) → ahead buy s s ≡ false
not_ahead_of_itself true s = le-ltb s.terms.price s.terms.price (omega arith)
not_ahead_of_itself false s = le-ltb s.terms.price s.terms.price (omega arith)

-- what holds of all that were placed holds of each
unparted : {X : Type 0} (P : X → Type 0) (p : X → Bool) (xs : List X) → AllByRecursion P (filter (λ y. not (p y)) xs) → AllByRecursion P (filter p xs) → AllByRecursion P xs
unparted P p [] h k = tt
unparted {X} P p (x ∷ xs) h k = at (p x) h k (unparted P p xs)
  where
    at : (b : Bool) → AllByRecursion P (cond (not b) (x ∷ filter (λ y. not (p y)) xs) (filter (λ y. not (p y)) xs)) → AllByRecursion P (cond b (x ∷ filter p xs) (filter p xs))
        → (AllByRecursion P (filter (λ y. not (p y)) xs) → AllByRecursion P (filter p xs) → AllByRecursion P xs) → P x × AllByRecursion P xs
    at true a b deeper = (b.0, deeper a b.1)
    at false a b deeper = (a.0, deeper a.1 b)

unplaced : {X : Type 0} (P : X → Type 0) (better : X → X → Bool) (xs : List X) (x : X) → AllByRecursion P (inserted_behind better xs x) → P x × AllByRecursion P xs
unplaced P better xs x h =
    let parts : AllByRecursion P (filter (λ y. not (better x y)) xs) × AllByRecursion P (x ∷ filter (better x) xs) = all_parted P (filter (λ y. not (better x y)) xs) (x ∷ filter (better x) xs) h in
    (parts.1.0, unparted P (better x) xs parts.0 parts.1.1)

pub all_in_order : {X : Type 0} (P : X → Type 0) (better : X → X → Bool) (earlier xs : List X) → AllByRecursion P (fold (inserted_behind better) earlier xs) → AllByRecursion P earlier × AllByRecursion P xs
all_in_order P better earlier [] h = (h, tt)
all_in_order P better earlier (x ∷ xs) h =
    let deeper : AllByRecursion P (inserted_behind better earlier x) × AllByRecursion P xs = all_in_order P better (inserted_behind better earlier x) xs h in
    let both : P x × AllByRecursion P earlier = unplaced P better earlier x deeper.0 in
    (both.1, (both.0, deeper.1))

-- and of each that passes
pub all_unfiltered : {X : Type 0} (P : X → Type 0) (p : X → Bool) (xs : List X) → AllByRecursion P (filter p xs) → AllByRecursion (λ (x : X). p x ≡ true → P x) xs
all_unfiltered P p [] h = tt
all_unfiltered {X} P p (x ∷ xs) h = at (p x) refl h (all_unfiltered P p xs)
  where
    at : (b : Bool) → p x ≡ b → AllByRecursion P (cond b (x ∷ filter p xs) (filter p xs)) → (AllByRecursion P (filter p xs) → AllByRecursion (λ (y : X). p y ≡ true → P y) xs)
        → (p x ≡ true → P x) × AllByRecursion (λ (y : X). p y ≡ true → P y) xs
    at true e a deeper = (λ k. a.0, deeper a.1)
    at false e a deeper = (λ k. absurd (both_ways _ e k), deeper a)

-- no order rests behind one with a worse price
pub resting_ordered : (policy : PolicyData) (history : List RecordData) (stock : Symbol) (buy : Bool) → IsInOrder (ahead buy) (side policy history stock buy)
unfolding side
resting_ordered policy history stock buy = ordered_by (ahead buy) (prices_rank buy) (not_ahead_of_itself buy) [] (by_time policy history stock buy) tt
