-- The rows that pass a test, one by one.
use Rattle.std.proofs.{Common.{◌≡◌, ◌<◌, ◌≤◌, ◌-◌, take, ltb, ℕ, zero, suc, ◌+◌, Bool, true, false, cond, List, [], ◌∷◌, length, refl, ◌∙◌, sym, ap, drop, get_or, position, add-one, arith}, lemmas.{Bool.ltb-false, List.{Sums.fails_before_first, Quantifiers.position-Some, drop_more, take_rest}}}
use Rattle.std.specs.{Prelude.{Option, Some, None}, List.{cons_option, filter, filter_map, position_or_len}}

-- where the first row that passes stands at i, those before it are not shown
passed : {X : Type 0} (p : X → Bool) (rows : List X) (i : ℕ) (d : X) → i < length rows → p (get_or rows i d) ≡ true → ((k : ℕ) → k < i → p (get_or rows k d) ≡ false)
    → filter p rows ≡ get_or rows i d ∷ filter p (drop (suc i) rows)
passed p [] i d within passes before = let never : ⊥ = omega (arith, within) in elim never [ ]
passed p (x ∷ rows) zero d within passes before = ap (λ (b : Bool). cond b (x ∷ filter p rows) (filter p rows)) passes
passed p (x ∷ rows) (suc i) d within passes before =
    ap (λ (b : Bool). cond b (x ∷ filter p rows) (filter p rows)) (before 0 (omega arith))
    ∙ passed p rows i d (omega (arith, within)) passes (λ k less. before (suc k) (omega (arith, less)))

skipped : {X : Type 0} (p : X → Bool) (rows : List X) (i : ℕ) (d : X) → position p rows ≡ Some i → filter p rows ≡ get_or rows i d ∷ filter p (drop (i + 1) rows)
skipped p rows i d at =
    let found = position-Some p rows i d at in
    rw add-one (passed p rows i d found.0 found.1 found.2)

-- where no row passes, none is shown
none_shown : {X : Type 0} (p : X → Bool) (rows : List X) (d : X) → ((k : ℕ) → k < length rows → p (get_or rows k d) ≡ false) → filter p rows ≡ []
none_shown p [] d before = refl
none_shown p (x ∷ rows) d before =
    ap (λ (b : Bool). cond b (x ∷ filter p rows) (filter p rows)) (before 0 (omega arith))
    ∙ none_shown p rows d (λ k less. before (suc k) (omega (arith, less)))

is_past : (a n : ℕ) (b : Bool) → ltb a n ≡ b → cond b (Some a) None ≡ None → n ≤ a
is_past a n true e none = let never : Some a ≡ None = none in let wrong : ⊥ = cc in elim wrong [ ]
is_past a n false e none = ltb-false a n e

pub none_open : {X : Type 0} (p : X → Bool) (rows : List X) → position p rows ≡ None → filter p rows ≡ []
none_open p [] none = refl
none_open p (x ∷ rows) none =
    let past : length (x ∷ rows) ≤ position_or_len p (x ∷ rows) = is_past (position_or_len p (x ∷ rows)) (length (x ∷ rows)) (ltb (position_or_len p (x ∷ rows)) (length (x ∷ rows))) refl none in
    none_shown p (x ∷ rows) x (λ k less. fails_before_first p (x ∷ rows) k x (omega (arith, past, less)))

-- the first row that passes and those behind it, as a slice to the end is read
pub skipped_to : {X : Type 0} (p : X → Bool) (rows : List X) (i : ℕ) (d : X) → position p rows ≡ Some i → filter p rows ≡ get_or rows i d ∷ filter p (take (length rows - (i + 1)) (drop (i + 1) rows))
skipped_to {X} p rows i d at = skipped p rows i d at ∙ ap (λ (behind : List X). get_or rows i d ∷ filter p behind) (sym (take_rest rows (i + 1)))

-- ---- by number

-- one number more: what it gives, and what those behind it give
one_more : {X Y : Type 0} (h : X → Option Y) (xs : List X) (i : ℕ) (d : X) (found : Option Y) → i < length xs → h (get_or xs i d) ≡ found
    → filter_map h (drop i xs) ≡ cons_option found (filter_map h (drop (i + 1) xs))
one_more h xs i d found within gives =
    ap (filter_map h) (drop_more xs i d within) ∙ ap (λ o. cons_option o (filter_map h (drop (i + 1) xs))) gives
