-- A turn of a small day leaves a small day: few orders and fills, each with few shares and a low price.
use Rattle.std.proofs.{Common.{◌≡◌, ℕ, ◌+◌, ◌*◌, ◌<◌, ◌≤◌, ◌^◌, Bool, true, false, List, [], ◌∷◌, ◌++◌, sym, ap, ◌∙◌, cond, length, arith, sum_by, inl, inr, ◌⊎◌}, Math.{Path.subst, Nat.mul-le-mul_left}, lemmas.List.{append-nil, length-append, Sums.sum_by-cons}}
use Rattle.std.specs.{Prelude.{Some, nat_eq}, Option.option_map_or, List.{AllByRecursion, IsDistinct, filter, filter_map}}
use Rattle.gx_units.specs.Money.{value}
use Rattle.gx_units.proofs.Lists_hold.{all_both, all_and, all_found_of, found_is}
use Rattle.gx_policy.specs.declared.policy.PolicyData.{PolicyData}
use Rattle.gx_history.specs.{declared.{live_order.LiveOrder.LiveOrder, «record».Fill.Fill}, Executions.Execution, Figures.Positions, LiveOrders.shares_open, Orders.Order, Turns.{Turn, Adds, EndsAll, Ends, Fills, Keeps, Replaces, Rests, Sizes, becomes, new_in, live_after}}
use Rattle.gx_laws.proofs.{BookSides_next.becomes_same, Sums_turn.{IsNoMore, none_gains}}
use Rattle.gx_laws.specs.Sound.{IsNoLater, IsLiveThere, MayChange, MayCome, MayFillHeld, NeverFall, numbers_of}

-- few shares open and a low price
abbrev pub IsSmall : LiveOrder → Type 0
IsSmall o = (shares_open o < 2 ^ 32) × (o.terms.price < 2 ^ 32)

-- few shares at a low price
abbrev pub IsSmallSide : Execution → Type 0
IsSmallSide e = (e.fill.shares < 2 ^ 32) × (e.fill.price < 2 ^ 32)

-- one more, no earlier than those before
pub never_fall_next : (os : List Order) (o : Order) → NeverFall os → AllByRecursion (IsNoLater o) os → NeverFall (os ++ o ∷ [])
never_fall_next [] o h k = (tt, tt)
never_fall_next (x ∷ os) o h k = (all_both (λ (later : Order). IsNoLater later x) os (o ∷ []) h.0 (k.0, tt), never_fall_next os o h.1 k.1)

-- what holds of an order that may come holds of each that comes new
pub new_ones : (P : LiveOrder → Type 0) (policy : PolicyData) (held : Positions) (granted : List Order) → ((new : LiveOrder) → MayCome policy held new granted → P new) → (turn : Turn) → MayChange policy held turn granted
    → AllByRecursion P (new_in turn)
new_ones P policy held granted each Keeps may = tt
new_ones P policy held granted each (Adds new) may = (each new may, tt)
new_ones P policy held granted each (Sizes number size) may = tt
new_ones P policy held granted each (Replaces number new) may = (each new may.may_come, tt)
new_ones P policy held granted each (EndsAll action) may = tt
new_ones P policy held granted each (Fills f) may = tt
new_ones P policy held granted each (Rests number) may = tt
new_ones P policy held granted each (Ends number) may = tt

-- live orders are small then
pub live_then : (policy : PolicyData) (held : Positions) (turn : Turn) (granted : List Order) → IsDistinct nat_eq (numbers_of held.live) → MayChange policy held turn granted → AllByRecursion IsSmall held.live
    → AllByRecursion IsSmall (live_after turn held.live)
live_then policy held turn granted distinct may small =
    all_both IsSmall (filter_map (becomes turn) held.live) (new_in turn)
    (all_found_of (λ (x : LiveOrder). IsNoMore turn x × IsSmall x) IsSmall (becomes turn) (λ x o h e. goes_on x o h.0 h.1 e) held.live
    (all_and (IsNoMore turn) IsSmall held.live (none_gains policy held turn granted distinct may) small))
    (new_ones IsSmall policy held granted comes_small turn may)
  where
    comes_small : (new : LiveOrder) → MayCome policy held new granted → IsSmall new
    comes_small new come = let few = come.is_small in (omega (arith, few), come.is_cheap)

    goes_on : (x o : LiveOrder) → IsNoMore turn x → IsSmall x → becomes turn x ≡ Some o → IsSmall o
    goes_on x o less was e =
        let same = ap (λ found. option_map_or shares_open found 0) e in
        let few = was.0 in
        (omega (arith, same, few, less), subst (λ terms. terms.price < 2 ^ 32) (sym (becomes_same turn x o e).1) was.1)

-- one that is there
small_there : (held : Positions) (number : ℕ) (there : IsLiveThere held number) → AllByRecursion IsSmall held.live → IsSmall there.order
small_there held number there small = found_is IsSmall (λ (x : LiveOrder). nat_eq x.number number) held.live there.order small there.is_found

-- the shares and the price of a fill between small orders
pub fill_small : (held : Positions) (f : Fill) → MayFillHeld held f → AllByRecursion IsSmall held.live → (f.shares < 2 ^ 32) × (f.price < 2 ^ 32)
fill_small held f may small =
    let few = (small_there held f.taker may.taker small).0 in
    let has = may.taker_has in
    let low = (small_there held f.maker may.maker small).1 in
    let same = may.at_its_price in
    (omega (arith, few, has), omega (arith, low, same))

-- at most so many, and at most the limit
abbrev pub AreFew : {X : Type 0} → List X → ℕ → ℕ → Type 0
AreFew xs most limit = (length xs ≤ most) × (length xs ≤ limit)

-- none more, or so many where there is room for them
abbrev pub HasRoom : {X : Type 0} → List X → ℕ → ℕ → ℕ → Type 0
HasRoom more most limit count = (more ≡ []) ⊎ ((length more ≤ count) × (most + count ≤ limit))

pub few_then : {X : Type 0} (xs more : List X) (most limit count : ℕ) → AreFew xs most limit → HasRoom more most limit count → AreFew (xs ++ more) (most + count) limit
few_then xs more most limit count few (inl none) =
    let same = ap length (ap (λ ys. xs ++ ys) none ∙ append-nil xs) in
    (omega (arith, same, few.0), omega (arith, same, few.1))
few_then xs more most limit count few (inr room) =
    let both = length-append xs more in
    (omega (arith, both, few.0, room.0), omega (arith, both, few.0, room.0, room.1))

-- a sum over small ones
pub sum_within : {X : Type 0} (m : X → ℕ) (P : X → Type 0) → ((x : X) → P x → m x ≤ 2 ^ 64) → (p : X → Bool) (xs : List X) → AllByRecursion P xs → sum_by m (filter p xs) ≤ length xs * 2 ^ 64
sum_within m P each p [] h = omega arith
sum_within {X} m P each p (x ∷ xs) h = at (p x) (each x h.0) (sum_within m P each p xs h.1)
  where
    at : (b : Bool) → m x ≤ 2 ^ 64 → sum_by m (filter p xs) ≤ length xs * 2 ^ 64 → sum_by m (cond b (x ∷ filter p xs) (filter p xs)) ≤ length (x ∷ xs) * 2 ^ 64
    at true here deeper = let whole : sum_by m (x ∷ filter p xs) ≡ m x + sum_by m (filter p xs) = sum_by-cons m x (filter p xs) in omega (arith, here, deeper, whole)
    at false here deeper = omega (arith, deeper)

-- a value of few shares at a low price
pub product : (a b : ℕ) → a < 2 ^ 32 → b < 2 ^ 32 → value a b ≤ 2 ^ 64
product a b small_a small_b =
    let less : b ≤ 2 ^ 32 = omega (arith, small_b) in
    let by_price : a * b ≤ a * 2 ^ 32 = mul-le-mul_left a less in
    omega (arith, by_price, small_a)

-- few shares
pub below : (a : ℕ) → a < 2 ^ 32 → a ≤ 2 ^ 64
below a small = omega (arith, small)
