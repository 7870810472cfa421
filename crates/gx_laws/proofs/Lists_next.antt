-- What one more element changes in a list's words.
use Rattle.std.proofs.{Common.{◌≡◌, ℕ, ◌+◌, Bool, List, [], ◌∷◌, ◌++◌, refl, ◌∙◌, ap, sym, sum_by, arith, append_assoc, cond, true, false}, lemmas.List.{Elements.{filter_map-append, filter-append}, Concat.flat_map-append, Folds.list_any-append, Sums.sum_by-cons, append-nil}}
use Rattle.std.specs.{Prelude.{Option, Some, None, unwrap_or, filter_map, flat_map, ◌||◌}, List.{last_or, cons_option, list_any, filter}}
use Rattle.gx_policy.specs.Lists.{last_value, each_after, each_with_earlier, last_such}
use Rattle.gx_units.proofs.Test_known.{or_false}

pub last_or-append : {X : Type 0} (o : Option X) (xs ys : List X) → last_or o (xs ++ ys) ≡ last_or (last_or o xs) ys
last_or-append o [] ys = refl
last_or-append o (x ∷ xs) ys = last_or-append (Some x) xs ys

-- the last such, of one more
pub last_such_next : {X : Type 0} (test : X → Bool) (xs : List X) (x : X) → last_such test (xs ++ x ∷ []) ≡ cond (test x) (Some x) (last_such test xs)
last_such_next {X} test xs x =
    ap (last_or None) (filter-append test xs (x ∷ []))
    ∙ last_or-append None (filter test xs) (filter test (x ∷ []))
    ∙ by (test x)
  where
    by : (b : Bool) → last_or (last_or None (filter test xs)) (cond b (x ∷ []) []) ≡ cond b (Some x) (last_or None (filter test xs))
    by true = refl
    by false = refl

last_of_one : {Y : Type 0} (m : Option Y) (o : Option Y) (d : Y) → unwrap_or (last_or o (cons_option m [])) d ≡ unwrap_or m (unwrap_or o d)
last_of_one None o d = refl
last_of_one (Some y) o d = refl

-- one more mark decides, where there is one
pub last_value_next : {X Y : Type 0} (mark : X → Option Y) (d : Y) (xs : List X) (x : X) → last_value mark d (xs ++ x ∷ []) ≡ unwrap_or (mark x) (last_value mark d xs)
last_value_next mark d xs x =
    ap (λ ys. unwrap_or (last_or None ys) d) (filter_map-append mark xs (x ∷ []))
    ∙ ap (λ o. unwrap_or o d) (last_or-append None (filter_map mark xs) (filter_map mark (x ∷ [])))
    ∙ last_of_one (mark x) (last_or None (filter_map mark xs)) d

pub each_after_next : {X : Type 0} (earlier xs : List X) (x : X) → each_after earlier (xs ++ x ∷ []) ≡ each_after earlier xs ++ (earlier ++ xs, x) ∷ []
each_after_next {X} earlier [] x = ap (λ (before : List X). (before, x) ∷ []) (sym (append-nil earlier))
each_after_next {X} earlier (y ∷ xs) x =
    ap (λ (rest : List (List X × X)). (earlier, y) ∷ rest)
    (each_after_next (earlier ++ y ∷ []) xs x ∙ ap (λ (before : List X). each_after (earlier ++ y ∷ []) xs ++ (before, x) ∷ []) (append_assoc earlier (y ∷ []) xs))

-- what each element gives with those before it
pub flat_map_next : {X Y : Type 0} (f : (List X × X) → List Y) (xs : List X) (x : X)
    → flat_map f (each_with_earlier (xs ++ x ∷ [])) ≡ flat_map f (each_with_earlier xs) ++ f (xs, x)
flat_map_next f xs x =
    ap (flat_map f) (each_after_next [] xs x)
    ∙ flat_map-append f (each_with_earlier xs) ((xs, x) ∷ [])
    ∙ ap (λ ys. flat_map f (each_with_earlier xs) ++ ys) (append-nil (f (xs, x)))

pub list_any_next : {X : Type 0} (p : X → Bool) (xs : List X) (x : X) → list_any p (xs ++ x ∷ []) ≡ (list_any p xs || p x)
list_any_next p xs x = list_any-append p xs (x ∷ []) ∙ ap (λ b. list_any p xs || b) (or_false (p x))

pub sum_same : {X : Type 0} (f g : X → ℕ) → ((x : X) → f x ≡ g x) → (xs : List X) → sum_by f xs ≡ sum_by g xs
sum_same f g h [] = refl
sum_same f g h (x ∷ xs) = sum_by-cons f x xs ∙ ap (λ n. n + sum_by f xs) (h x) ∙ ap (λ n. g x + n) (sum_same f g h xs) ∙ sym (sum_by-cons g x xs)

pub sum_of_both : {X : Type 0} (f g : X → ℕ) (xs : List X) → sum_by (λ x. f x + g x) xs ≡ sum_by f xs + sum_by g xs
sum_of_both f g [] = refl
sum_of_both f g (x ∷ xs) =
    let left : sum_by (λ x. f x + g x) (x ∷ xs) ≡ (f x + g x) + sum_by (λ x. f x + g x) xs = sum_by-cons (λ x. f x + g x) x xs in
    let rest : sum_by (λ x. f x + g x) xs ≡ sum_by f xs + sum_by g xs = sum_of_both f g xs in
    let of_f : sum_by f (x ∷ xs) ≡ f x + sum_by f xs = sum_by-cons f x xs in
    let of_g : sum_by g (x ∷ xs) ≡ g x + sum_by g xs = sum_by-cons g x xs in
    omega arith

pub sum_of_nothing : {X : Type 0} (xs : List X) → sum_by (λ x. 0) xs ≡ 0
sum_of_nothing [] = refl
sum_of_nothing (x ∷ xs) =
    let rest : sum_by (λ x. 0) xs ≡ 0 = sum_of_nothing xs in
    let whole : sum_by (λ x. 0) (x ∷ xs) ≡ 0 + sum_by (λ x. 0) xs = sum_by-cons (λ x. 0) x xs in
    omega arith
