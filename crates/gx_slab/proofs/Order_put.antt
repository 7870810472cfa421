-- An order is put last.
use Rattle.std.proofs.{Common.{◌≡◌, ◌<◌, ℕ, zero, suc, ◌+◌, Bool, true, false, cond, List, [], ◌∷◌, ◌++◌, length, set, refl, ◌∙◌, sym, ap, subst, arith, ◌⊎◌, inl, inr}, lemmas.{Bool.eq-eqb, List.{Elements.filter-append, length-append}, Option.same_Some}}
use Rattle.std.specs.Prelude.{Some, None, slice_get}
use Rattle.gx_history.specs.declared.live_order.LiveOrder.{LiveOrder}
use Rattle.gx_slab.specs.Slabs.{HasRoom, IsPlaced, IsTable, first_place, has_number, is_open, open_ones, live_numbered}

-- what stands in a list with one more: what stood there, or the last
stood : {X : Type 0} (xs : List X) (x p : X) (i : ℕ) → slice_get (xs ++ x ∷ []) i ≡ Some p → (slice_get xs i ≡ Some p) ⊎ ((i ≡ length xs) × (p ≡ x))
stood [] x p zero at = inr (refl, sym (same_Some _ _ at))
stood [] x p (suc i) at = let never : None ≡ Some p = at in inl (cc)
stood (y ∷ xs) x p zero at = inl at
stood (y ∷ xs) x p (suc i) at = elim (stood xs x p i at) [ inl h ↦ inl h | inr h ↦ inr (omega (arith, h.0), h.1) ]

pub stays : {X : Type 0} (xs ys : List X) (p : X) (i : ℕ) → slice_get xs i ≡ Some p → slice_get (xs ++ ys) i ≡ Some p
stays [] ys p i at = let never : None ≡ Some p = at in cc
stays (x ∷ xs) ys p zero at = at
stays (x ∷ xs) ys p (suc i) at = stays xs ys p i at

-- what is written is read, and nothing else
pub is_set : {X : Type 0} (xs : List X) (i : ℕ) (x : X) → i < length xs → slice_get (set xs i x) i ≡ Some x
is_set [] i x within = let never : ⊥ = omega (arith, within) in elim never [ ]
is_set (y ∷ xs) zero x within = refl
is_set (y ∷ xs) (suc i) x within = is_set xs i x (omega (arith, within))

pub others_stay : {X : Type 0} (xs : List X) (i j : ℕ) (x : X) → (j ≡ i → ⊥) → slice_get (set xs i x) j ≡ slice_get xs j
others_stay [] i j x other = refl
others_stay (y ∷ xs) zero zero x other = elim (other refl) [ ]
others_stay (y ∷ xs) zero (suc j) x other = refl
others_stay (y ∷ xs) (suc i) zero x other = refl
others_stay (y ∷ xs) (suc i) (suc j) x other = others_stay xs i j x (λ h. other (omega (arith, h)))

-- the live ones, with one more
pub shown_last : (rows : List LiveOrder) (x : LiveOrder) → is_open x ≡ true → open_ones (rows ++ x ∷ []) ≡ open_ones rows ++ x ∷ []
shown_last rows x lives = filter-append is_open rows (x ∷ []) ∙ ap (λ (b : Bool). open_ones rows ++ cond b (x ∷ []) []) lives

pub count_last : (rows : List LiveOrder) (x : LiveOrder) → is_open x ≡ true → length (open_ones (rows ++ x ∷ [])) ≡ length (open_ones rows) + 1
count_last rows x lives = ap length (shown_last rows x lives) ∙ length-append (open_ones rows) (x ∷ [])

-- where no live order has the number, no row that lives has it
pub fresh_apart : (rows : List LiveOrder) (n : ℕ) → live_numbered (open_ones rows) n ≡ None → (i : ℕ) (o : LiveOrder) → slice_get rows i ≡ Some o → is_open o ≡ true → o.number ≡ n → ⊥
fresh_apart [] n none i o at lives is = let never : None ≡ Some o = at in cc
fresh_apart (x ∷ rows) n none i o at lives is = by (is_open x) refl none (λ later. fresh_apart rows n later) i at
  where
    passed : (b : Bool) → cond b (Some x) (live_numbered (open_ones rows) n) ≡ None → live_numbered (open_ones rows) n ≡ None
    passed true h = let never : Some x ≡ None = h in cc
    passed false h = h

    it : has_number n x ≡ true → cond (has_number n x) (Some x) (live_numbered (open_ones rows) n) ≡ None → ⊥
    it same h = let never : Some x ≡ None = sym (ap (λ (b : Bool). cond b (Some x) (live_numbered (open_ones rows) n)) same) ∙ h in cc

    by : (b : Bool) → is_open x ≡ b → live_numbered (cond b (x ∷ open_ones rows) (open_ones rows)) n ≡ None
        → (live_numbered (open_ones rows) n ≡ None → (k : ℕ) (p : LiveOrder) → slice_get rows k ≡ Some p → is_open p ≡ true → p.number ≡ n → ⊥) → (k : ℕ) → slice_get (x ∷ rows) k ≡ Some o → ⊥
    by true e h later zero here = it (ap (has_number n) (same_Some _ _ here) ∙ eq-eqb o.number n is) h
    by true e h later (suc k) here = later (passed (has_number n x) h) k o here lives is
    by false e h later zero here = let never : true ≡ false = sym lives ∙ ap is_open (sym (same_Some _ _ here)) ∙ e in cc
    by false e h later (suc k) here = later h k o here lives is

-- the table with one more
pub put : (before room : List ℕ) (rows : List LiveOrder) (x : LiveOrder) → IsPlaced before rows → HasRoom x.number before room → live_numbered (open_ones rows) x.number ≡ None
    → IsPlaced (set room x.number (length rows)) (rows ++ x ∷ [])
put before room rows x placed has fresh i o at lives = elim (stood rows x o i at) [
  | inl h ↦ others_stay room x.number o.number (length rows) (fresh_apart rows x.number fresh i o h lives) ∙ has.kept o.number i (placed i o h lives)
  | inr h ↦ ap (λ (p : LiveOrder). slice_get (set room x.number (length rows)) p.number) h.1 ∙ is_set room x.number (length rows) has.within ∙ ap (λ (k : ℕ). Some k) (sym h.0)
]

pub pushed : (places room : List ℕ) (rows now : List LiveOrder) (x : LiveOrder) (live first place at : ℕ) → IsTable places rows live first → HasRoom x.number places room
    → is_open x ≡ true → live_numbered (open_ones rows) x.number ≡ None → now ≡ rows ++ x ∷ [] → place ≡ length rows → at ≡ first_place now → IsTable (set room x.number place) now (live + 1) at
pushed places room rows now x live first place at t has lives fresh is last found = record {
  placed = subst (λ (xs : List LiveOrder). IsPlaced (set room x.number place) xs) (sym is)
      (subst (λ (k : ℕ). IsPlaced (set room x.number k) (rows ++ x ∷ [])) (sym last) (put places room rows x t.placed has fresh));
  counted = omega (arith, t.counted, count_last rows x lives, ap (λ (xs : List LiveOrder). length (open_ones xs)) is);
  at_first = found;
  dense = omega (arith, t.dense, ap length is, length-append rows (x ∷ []));
}
