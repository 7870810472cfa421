-- Where the first order that waits stands.
use Rattle.std.proofs.{Common.{◌≡◌, ◌<◌, ◌≤◌, ℕ, zero, suc, ◌+◌, Bool, true, false, not, cond, List, [], ◌∷◌, length, get_or, set, refl, sym, ap, arith, if◌then◌else◌}, lemmas.{List.Sums.prefix_len-le-length, Bool.and_right}}
use Rattle.std.specs.{Prelude.min, List.position_or_len}
use Rattle.gx_history.specs.declared.live_order.LiveOrder.{LiveOrder}
use Rattle.gx_slab.specs.Slabs.{first_place, is_open, is_waiting}

-- what passes at a place that is not behind the first that passes is the first
pub is_first : {X : Type 0} (p : X → Bool) (xs : List X) (i : ℕ) (d : X) → i < length xs → i ≤ position_or_len p xs → p (get_or xs i d) ≡ true → position_or_len p xs ≡ i
is_first p [] i d within before is = let never : ⊥ = omega (arith, within) in elim never [ ]
is_first p (x ∷ xs) zero d within before is = ap (λ (b : Bool). cond (not b) (1 + position_or_len p xs) 0) is
is_first p (x ∷ xs) (suc i) d within before is = by (p x) before (λ h. is_first p xs i d (omega (arith, within)) h is)
  where
    by : (b : Bool) → suc i ≤ cond (not b) (1 + position_or_len p xs) 0 → (i ≤ position_or_len p xs → position_or_len p xs ≡ i) → cond (not b) (1 + position_or_len p xs) 0 ≡ suc i
    by true h later = let never : ⊥ = omega (arith, h) in elim never [ ]
    by false h later = omega (arith, later (omega (arith, h)))

-- and where it does not pass, the first stands behind it
pub is_behind : {X : Type 0} (p : X → Bool) (xs : List X) (i : ℕ) (d : X) → i < length xs → i ≤ position_or_len p xs → p (get_or xs i d) ≡ false → i + 1 ≤ position_or_len p xs
is_behind p [] i d within before is = let never : ⊥ = omega (arith, within) in elim never [ ]
is_behind p (x ∷ xs) zero d within before is =
    let next : 1 + position_or_len p xs ≡ position_or_len p (x ∷ xs) = sym (ap (λ (b : Bool). cond (not b) (1 + position_or_len p xs) 0) is) in
    omega (arith, next)
is_behind p (x ∷ xs) (suc i) d within before is = by (p x) before (λ h. is_behind p xs i d (omega (arith, within)) h is)
  where
    by : (b : Bool) → suc i ≤ cond (not b) (1 + position_or_len p xs) 0 → (i ≤ position_or_len p xs → i + 1 ≤ position_or_len p xs) → suc i + 1 ≤ cond (not b) (1 + position_or_len p xs) 0
    by true h later = let never : ⊥ = omega (arith, h) in elim never [ ]
    by false h later = omega (arith, later (omega (arith, h)))

-- none passes
pub none_is : {X : Type 0} (p : X → Bool) (xs : List X) → length xs ≤ position_or_len p xs → position_or_len p xs ≡ length xs
none_is p xs before = omega (arith, before, prefix_len-le-length (λ x. not (p x)) xs)

-- ---- after a change

-- one that does not pass, in any place
written_past : {X : Type 0} (p : X → Bool) (xs : List X) (i : ℕ) (y : X) → p y ≡ false → position_or_len p xs ≤ position_or_len p (set xs i y)
written_past p [] i y fails = omega arith
written_past p (x ∷ xs) zero y fails =
    by (p x) (ap (λ (b : Bool). cond (not b) (1 + position_or_len p xs) 0) fails)
  where
    by : (b : Bool) → position_or_len p (y ∷ xs) ≡ 1 + position_or_len p xs → cond (not b) (1 + position_or_len p xs) 0 ≤ position_or_len p (y ∷ xs)
    by true is = omega (arith, is)
    by false is = omega (arith, is)
written_past p (x ∷ xs) (suc i) y fails = by (p x) (written_past p xs i y fails)
  where
    by : (b : Bool) → position_or_len p xs ≤ position_or_len p (set xs i y) → cond (not b) (1 + position_or_len p xs) 0 ≤ cond (not b) (1 + position_or_len p (set xs i y)) 0
    by true later = omega arith
    by false later = omega (arith, later)

-- any, at a place that is not before this one
written_behind : {X : Type 0} (p : X → Bool) (xs : List X) (i k : ℕ) (y : X) → k ≤ i → k ≤ position_or_len p xs → k ≤ position_or_len p (set xs i y)
written_behind p [] i k y at before = before
written_behind p (x ∷ xs) zero k y at before = omega (arith, at)
written_behind p (x ∷ xs) (suc i) zero y at before = omega arith
written_behind p (x ∷ xs) (suc i) (suc k) y at before = by (p x) before (λ h. written_behind p xs i k y (omega (arith, at)) h)
  where
    by : (b : Bool) → suc k ≤ cond (not b) (1 + position_or_len p xs) 0 → (k ≤ position_or_len p xs → k ≤ position_or_len p (set xs i y)) → suc k ≤ cond (not b) (1 + position_or_len p (set xs i y)) 0
    by true h later = h
    by false h later = omega (arith, later (omega (arith, h)))

-- an order written at its place
pub first_written : (rows : List LiveOrder) (i : ℕ) (o : LiveOrder) → (if o.waits then min i (first_place rows) else first_place rows) ≤ first_place (set rows i o)
first_written rows i o = by o.waits refl
  where
    by : (b : Bool) → o.waits ≡ b → (if b then min i (first_place rows) else first_place rows) ≤ first_place (set rows i o)
    by true e = written_behind is_waiting rows i (min i (first_place rows)) o (omega arith) (omega arith)
    by false e = written_past is_waiting rows i o (and_right (is_open o) o.waits e)
