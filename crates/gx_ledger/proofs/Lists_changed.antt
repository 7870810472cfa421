-- Lists that are changed at one place.
use Rattle.std.proofs.Common.{◌≡◌, ℕ, ◌+◌, ◌<◌, ◌≤◌, zero, suc, List, [], ◌∷◌, ◌++◌, map, take, length, get_or, set, refl, ap, ◌∙◌, arith}
use Rattle.gx_ledger.specs.Tallies.{changed_at}

-- a write is a change at the place
pub set_is_changed : {X : Type 0} (change : X → X) (xs : List X) (n : ℕ) (x d : X) → n < length xs → x ≡ change (get_or xs n d) → set xs n x ≡ changed_at n change xs
set_is_changed change [] n x d within is = refl
set_is_changed change (y ∷ xs) zero x d within is = ap (λ z. z ∷ xs) is
set_is_changed change (y ∷ xs) (suc n) x d within is = ap (λ l. y ∷ l) (set_is_changed change xs n x d (omega (arith, within)) is)

-- past the end nothing changes
pub past_is_unchanged : {X : Type 0} (change : X → X) (xs : List X) (n : ℕ) → length xs ≤ n → xs ≡ changed_at n change xs
past_is_unchanged change [] n past = refl
past_is_unchanged change (y ∷ xs) zero past = absurd (omega (arith, past))
past_is_unchanged change (y ∷ xs) (suc n) past = ap (λ l. y ∷ l) (past_is_unchanged change xs n (omega (arith, past)))

-- one more of the same
pub same_more : {X Y : Type 0} (y : Y) (xs : List X) (i : ℕ) → i < length xs → map (λ (x : X). y) (take i xs) ++ y ∷ [] ≡ map (λ (x : X). y) (take (i + 1) xs)
same_more y [] i within = absurd (omega (arith, within))
same_more y (x ∷ xs) zero within = refl
same_more {X} {Y} y (x ∷ xs) (suc i) within = ap (λ (l : List Y). y ∷ l) (same_more y xs i (omega (arith, within))) ∙ ap (λ n. map (λ (x : X). y) (take n (x ∷ xs))) next
  where
    next : suc (i + 1) ≡ suc i + 1
    next = omega arith
