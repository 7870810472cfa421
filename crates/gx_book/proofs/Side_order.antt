-- A side stays in the order of its prices, whatever is done to it.
use Rattle.std.proofs.{Common.{◌≡◌, ◌-◌, ℕ, Bool, true, false, cond, not, ◌&&◌, List, [], ◌∷◌, ◌++◌, map, refl, ◌∙◌, ap, arith}, lemmas.{Bool.{and_from, and_parts}, List.{Elements.All-filter, Folds.list_all-append, Sums.{AllPass-from_list_all, list_all-from_AllPass}}}}
use Rattle.std.specs.{Prelude.{if◌then◌else◌, nat_lt}, List.{filter, list_all}}
use Rattle.gx_units.proofs.Lists_hold.{all_imply}
use Rattle.gx_policy.specs.Lists.{inserted_behind}
use Rattle.gx_book.specs.{Resting.RestingData, Queue.{is_better, is_in_order, is_same, left_with, taken_from_first, with_order, with_open_shares, without_order}}

-- ---- any list

pub all_pass : {X : Type 0} (p : X → Bool) (xs : List X) → list_all p xs ≡ true → filter p xs ≡ xs
all_pass p [] all = refl
all_pass p (x ∷ xs) all =
    let parts = and_parts (p x) (list_all p xs) all in
    ap (λ b. cond b (x ∷ filter p xs) (filter p xs)) parts.0 ∙ ap (λ rest. x ∷ rest) (all_pass p xs parts.1)

none_pass : {X : Type 0} (p : X → Bool) (xs : List X) → list_all p xs ≡ true → filter (λ x. not (p x)) xs ≡ []
none_pass p [] all = refl
none_pass p (x ∷ xs) all =
    let parts = and_parts (p x) (list_all p xs) all in
    ap (λ b. cond (not b) (x ∷ filter (λ y. not (p y)) xs) (filter (λ y. not (p y)) xs)) parts.0 ∙ none_pass p xs parts.1

pub all_filter : {X : Type 0} (q p : X → Bool) (xs : List X) → list_all q xs ≡ true → list_all q (filter p xs) ≡ true
all_filter q p xs all = list_all-from_AllPass q (filter p xs) (All-filter p (λ x. q x ≡ true) xs (AllPass-from_list_all q xs all))

-- whoever betters all goes first
pub ahead_of_all : {X : Type 0} (better : X → X → Bool) (r : X) (xs : List X) → list_all (better r) xs ≡ true → inserted_behind better xs r ≡ r ∷ xs
ahead_of_all better r xs all = ap (λ front. front ++ r ∷ filter (better r) xs) (none_pass (better r) xs all) ∙ ap (λ rest. r ∷ rest) (all_pass (better r) xs all)

-- and behind whom he doesn't better
pub behind_first : {X : Type 0} (better : X → X → Bool) (r x : X) (xs : List X) → better r x ≡ false → inserted_behind better (x ∷ xs) r ≡ x ∷ inserted_behind better xs r
behind_first better r x xs is =
    ap (λ b. cond (not b) (x ∷ filter (λ y. not (better r y)) xs) (filter (λ y. not (better r y)) xs) ++ r ∷ cond b (x ∷ filter (better r) xs) (filter (better r) xs)) is

all_placed : {X : Type 0} (q : X → Bool) (better : X → X → Bool) (r : X) (xs : List X) → list_all q xs ≡ true → q r ≡ true → list_all q (inserted_behind better xs r) ≡ true
all_placed q better r xs all here =
    list_all-append q (filter (λ y. not (better r y)) xs) (r ∷ filter (better r) xs)
    ∙ and_from _ _ (all_filter q (λ y. not (better r y)) xs all) (and_from _ _ here (all_filter q (better r) xs all))

-- ---- a side

-- who betters an order betters whoever doesn't better that one
betters_next : (buy : Bool) (r x y : RestingData) → is_better buy r x ≡ true → not (is_better buy y x) ≡ true → is_better buy r y ≡ true
betters_next true r x y better later = grind arith
betters_next false r x y better later = grind arith

not_both : (buy : Bool) (r y : RestingData) → is_better buy r y ≡ true → not (is_better buy y r) ≡ true
not_both true r y better = grind arith
not_both false r y better = grind arith

pub in_order_filter : (buy : Bool) (p : RestingData → Bool) (xs : List RestingData) → is_in_order buy xs ≡ true → is_in_order buy (filter p xs) ≡ true
in_order_filter buy p [] sorted = refl
in_order_filter buy p (x ∷ xs) sorted =
    let parts = and_parts (list_all (λ y. not (is_better buy y x)) xs) (is_in_order buy xs) sorted in
    elim (p x) as (λ b. is_in_order buy (cond b (x ∷ filter p xs) (filter p xs)) ≡ true) [
      | true ↦ and_from _ _ (all_filter (λ y. not (is_better buy y x)) p xs parts.0) (in_order_filter buy p xs parts.1)
      | false ↦ in_order_filter buy p xs parts.1
    ]

pub in_order_placed : (buy : Bool) (r : RestingData) (xs : List RestingData) → is_in_order buy xs ≡ true → is_in_order buy (with_order buy r xs) ≡ true
in_order_placed buy r [] sorted = refl
in_order_placed buy r (x ∷ xs) sorted = by (is_better buy r x) refl (and_parts (list_all (λ y. not (is_better buy y x)) xs) (is_in_order buy xs) sorted) (λ rest. in_order_placed buy r xs rest)
  where
    by : (b : Bool) → is_better buy r x ≡ b → (list_all (λ y. not (is_better buy y x)) xs ≡ true) × (is_in_order buy xs ≡ true)
        → (is_in_order buy xs ≡ true → is_in_order buy (with_order buy r xs) ≡ true) → is_in_order buy (with_order buy r (x ∷ xs)) ≡ true
    by true is parts later =
        let all : list_all (is_better buy r) (x ∷ xs) ≡ true =
        and_from _ _ is (all_imply (λ y. not (is_better buy y x)) (is_better buy r) xs (λ y. betters_next buy r x y is) parts.0)
        in
        ap (is_in_order buy) (ahead_of_all (is_better buy) r (x ∷ xs) all) ∙ and_from _ _ (all_imply (is_better buy r) (λ y. not (is_better buy y r)) (x ∷ xs) (not_both buy r) all) sorted
    by false is parts later =
        ap (is_in_order buy) (behind_first (is_better buy) r x xs is)
        ∙ and_from _ _ (all_placed (λ y. not (is_better buy y x)) (is_better buy) r xs parts.0 (ap not is)) (later parts.1)

-- an order with other shares has its price
abbrev sized : RestingData → ℕ → RestingData → RestingData
sized r shares x = if is_same r x then record x { shares = shares } else x

keeps_price : (r : RestingData) (shares : ℕ) (x : RestingData) → (sized r shares x).price ≡ x.price
keeps_price r shares x = elim (is_same r x) as (λ (b : Bool). (if b then record x { shares = shares } else x).price ≡ x.price) [ true ↦ refl | false ↦ refl ]

none_betters : (buy : Bool) (r : RestingData) (shares : ℕ) (x : RestingData) (xs : List RestingData)
    → list_all (λ y. not (is_better buy y (sized r shares x))) (map (sized r shares) xs) ≡ list_all (λ y. not (is_better buy y x)) xs
none_betters buy r shares x [] = refl
none_betters buy r shares x (y ∷ xs) = λ i. not (if buy then nat_lt (keeps_price r shares x i) (keeps_price r shares y i) else nat_lt (keeps_price r shares y i) (keeps_price r shares x i)) && none_betters buy r shares x xs i

shared_in_order : (buy : Bool) (r : RestingData) (shares : ℕ) (xs : List RestingData) → is_in_order buy (with_open_shares r shares xs) ≡ is_in_order buy xs
shared_in_order buy r shares [] = refl
shared_in_order buy r shares (x ∷ xs) = λ i. none_betters buy r shares x xs i && shared_in_order buy r shares xs i

pub in_order_left : (buy : Bool) (r : RestingData) (shares : ℕ) (xs : List RestingData) → is_in_order buy xs ≡ true → is_in_order buy (left_with r shares xs) ≡ true
in_order_left buy r shares xs sorted = elim (nat_lt 0 shares) as (λ (b : Bool). is_in_order buy (if b then with_open_shares r shares xs else without_order r xs) ≡ true) [
  | true ↦ shared_in_order buy r shares xs ∙ sorted
  | false ↦ in_order_filter buy (λ x. not (is_same r x)) xs sorted
]

pub in_order_taken : (buy : Bool) (shares : ℕ) (xs : List RestingData) → is_in_order buy xs ≡ true → is_in_order buy (taken_from_first shares xs) ≡ true
in_order_taken buy shares [] sorted = refl
in_order_taken buy shares (x ∷ xs) sorted = in_order_left buy x (x.shares - shares) (x ∷ xs) sorted
