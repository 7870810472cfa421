-- What is found in a list: by a test, by a function, and by its place.
use Rattle.std.proofs.{Common.{◌≡◌, ◌≢◌, ℕ, zero, suc, ◌+◌, ◌<◌, ◌≤◌, Bool, true, false, cond, List, [], ◌∷◌, ◌++◌, length, map, take, refl, ◌∙◌, sym, ap, arith, append_assoc, take_all, length-take}, lemmas.Option.same_Some}
use Rattle.std.specs.{Prelude.{Option, Some, None, find, option_to_list, slice_get, ◌||◌}, List.{cons_option, filter, filter_map, list_any}}

pub one_found : {Y : Type 0} (found : Option Y) → cons_option found [] ≡ option_to_list found
one_found None = refl
one_found (Some y) = refl

pub none_such : {X : Type 0} (p : X → Bool) (xs : List X) → find p xs ≡ None → list_any p xs ≡ false
none_such p [] h = refl
none_such p (x ∷ xs) h = at (p x) h (none_such p xs)
  where
    at : (b : Bool) → cond b (Some x) (find p xs) ≡ None → (find p xs ≡ None → list_any p xs ≡ false) → (b || list_any p xs) ≡ false
    at true k deeper = cc
    at false k deeper = deeper k

pub nothing_such : {X : Type 0} (p : X → Bool) (xs : List X) → list_any p xs ≡ false → find p xs ≡ None
nothing_such p [] h = refl
nothing_such p (x ∷ xs) h = at (p x) h (nothing_such p xs)
  where
    at : (b : Bool) → (b || list_any p xs) ≡ false → (list_any p xs ≡ false → find p xs ≡ None) → cond b (Some x) (find p xs) ≡ None
    at true k deeper = cc
    at false k deeper = deeper k

-- no more are found than there are
pub few_found : {X Y : Type 0} (f : X → Option Y) (xs : List X) → length (filter_map f xs) ≤ length xs
few_found f [] = omega arith
few_found {X} {Y} f (x ∷ xs) = at (f x) (few_found f xs)
  where
    at : (found : Option Y) → length (filter_map f xs) ≤ length xs → length (cons_option found (filter_map f xs)) ≤ length (x ∷ xs)
    at None deeper = omega (arith, deeper)
    at (Some y) deeper = omega (arith, deeper)

-- no more pass than there are
pub few_pass : {X : Type 0} (p : X → Bool) (xs : List X) → length (filter p xs) ≤ length xs
few_pass p [] = omega arith
few_pass {X} p (x ∷ xs) = at (p x) (few_pass p xs)
  where
    at : (b : Bool) → length (filter p xs) ≤ length xs → length (cond b (x ∷ filter p xs) (filter p xs)) ≤ length (x ∷ xs)
    at true deeper = omega (arith, deeper)
    at false deeper = omega (arith, deeper)

filter_cond : {X : Type 0} (p : X → Bool) (b : Bool) (x : X) (ys : List X) → filter p (cond b (x ∷ ys) ys) ≡ cond b (cond (p x) (x ∷ filter p ys) (filter p ys)) (filter p ys)
filter_cond p true x ys = refl
filter_cond p false x ys = refl

either_order : {X : Type 0} (a b : Bool) (x : X) (zs : List X) → cond b (cond a (x ∷ zs) zs) zs ≡ cond a (cond b (x ∷ zs) zs) zs
either_order true true x zs = refl
either_order true false x zs = refl
either_order false true x zs = refl
either_order false false x zs = refl

pub filter_swap : {X : Type 0} (p q : X → Bool) (xs : List X) → filter p (filter q xs) ≡ filter q (filter p xs)
filter_swap p q [] = refl
filter_swap {X} p q (x ∷ xs) =
    filter_cond p (q x) x (filter q xs)
    ∙ either_order (p x) (q x) x (filter p (filter q xs))
    ∙ ap (λ (zs : List X). cond (p x) (cond (q x) (x ∷ zs) zs) zs) (filter_swap p q xs)
    ∙ sym (filter_cond q (p x) x (filter p xs))

pub map_same : {X Y : Type 0} (f g : X → Y) → ((x : X) → f x ≡ g x) → (xs : List X) → map f xs ≡ map g xs
map_same f g h [] = refl
map_same f g h (x ∷ xs) = ap (λ y. y ∷ map f xs) (h x) ∙ ap (λ ys. g x ∷ ys) (map_same f g h xs)

pub found_within : {X : Type 0} (xs : List X) (place : ℕ) → place < length xs → slice_get xs place ≢ None
found_within [] place h = absurd (omega (arith, h))
found_within (x ∷ xs) zero h = λ e. cc
found_within (x ∷ xs) (suc place) h = found_within xs place (omega (arith, h))

pub get_before : {X : Type 0} (xs more : List X) (place : ℕ) → place < length xs → slice_get (xs ++ more) place ≡ slice_get xs place
get_before [] more place h = absurd (omega (arith, h))
get_before (x ∷ xs) more zero h = refl
get_before (x ∷ xs) more (suc place) h = get_before xs more place (omega (arith, h))

pub get_last : {X : Type 0} (xs : List X) (x : X) → slice_get (xs ++ x ∷ []) (length xs) ≡ Some x
get_last [] x = refl
get_last (y ∷ xs) x = get_last xs x

pub one_more_taken : {X : Type 0} (xs : List X) (place : ℕ) (x : X) → slice_get xs place ≡ Some x → take (place + 1) xs ≡ take place xs ++ x ∷ []
one_more_taken [] place x found = cc
one_more_taken (y ∷ xs) zero x found = ap (λ z. z ∷ []) (same_Some _ _ found)
one_more_taken (y ∷ xs) (suc place) x found = ap (λ n. take n (y ∷ xs)) (one_more place) ∙ ap (λ rest. y ∷ rest) (one_more_taken xs place x found)
  where
    one_more : (n : ℕ) → suc n + 1 ≡ suc (n + 1)
    one_more n = grind arith

-- fewer than were asked for are all
pub all_taken : {X : Type 0} (xs : List X) (most : ℕ) → length (take most xs) < most → take most xs ≡ xs
all_taken xs most h = take_all most xs (omega (arith, h, length-take most xs))

-- four pieces, grouped in another way
pub append_regrouped : {X : Type 0} (a f r z : List X) → a ++ ((f ++ r) ++ z) ≡ (a ++ f) ++ (r ++ z)
append_regrouped a f r z = simp append_assoc
