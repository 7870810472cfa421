-- What one more item makes of what a pass over a list keeps.
use Rattle.std.proofs.{Common.{◌≡◌, ℕ, ◌+◌, ◌<◌, Bool, cond, List, [], ◌∷◌, ◌++◌, map, length, take, drop, set, get_or, ◌-◌, min, max, arith, ap, sym, ◌∙◌}, lemmas.{List.{Sums.fold-append, Edits.map_over_more, append-nil, drop_all, take_all, get_or_default, length-append, length-drop, length-map, length-take, map-append, map-id, take_more}, Simd.map-map}}
use Rattle.std.specs.Prelude.{Option, Some, fold, slice_get}
use Rattle.gx_units.proofs.Lists_found.{one_more_taken}
use Rattle.gx_policy.specs.Lists.{last_such}
use Rattle.gx_laws.proofs.Lists_next.{last_such_next}

-- the last such, of one more
pub last_such_more : {X : Type 0} (test : X → Bool) (xs : List X) (i : ℕ) (x d : X) (old new : Option X) → i < length xs → old ≡ last_such test (take i xs)
    → new ≡ cond (test x) (Some x) old → x ≡ get_or xs i d → new ≡ last_such test (take (i + 1) xs)
last_such_more test xs i x d old new within so_far next is =
    next
    ∙ (λ j. cond (test (is j)) (Some (is j)) (so_far j))
    ∙ sym (last_such_next test (take i xs) (get_or xs i d))
    ∙ ap (last_such test) (sym (take_more xs i d within))

-- a loop that writes f of it over each item
pub map_more : {X : Type 0} (f : X → X) (xs ys : List X) (i : ℕ) (x d : X) → i < length xs → ys ≡ map f (take i xs) ++ drop i xs → x ≡ get_or ys i d
    → set ys i (f x) ≡ map f (take (i + 1) xs) ++ drop (i + 1) xs
map_more f xs ys i x d within so_far is =
    let parts : length (map f (take i xs) ++ drop i xs) ≡ length (map f (take i xs)) + length (drop i xs) = length-append (map f (take i xs)) (drop i xs) in
    let front : length (map f (take i xs)) ≡ length (take i xs) = length-map (take i xs) f in
    let first : length (take i xs) ≡ min i (length xs) = length-take i xs in
    let behind : length (drop i xs) ≡ length xs - i = length-drop i xs in
    let whole : length ys ≡ length (map f (take i xs) ++ drop i xs) = ap length so_far in
    let inside : i < length ys = omega (arith, within, parts, front, first, behind, whole) in
    map_over_more f xs ys i x within so_far (is ∙ get_or_default ys i d x inside)

-- each item is changed by one thing after another
pub each_folded : {X A : Type 0} (change : A → X → X) (things : List A) (xs : List X)
    → fold (λ (ys : List X) (a : A). map (change a) ys) xs things ≡ map (λ (x : X). fold (λ (y : X) (a : A). change a y) x things) xs
each_folded {X} change [] xs = sym (map-id xs)
each_folded change (a ∷ things) xs =
    each_folded change things (map (change a) xs) ∙ map-map (λ (x : _). fold (λ (y : _) (b : _). change b y) x things) (change a) xs

-- a list of as many items written over another
pub written_back : {X : Type 0} (new items : List X) (n : ℕ) → length new ≡ length items → n ≡ length items → take n (new ++ drop (length new) items) ≡ new
written_back new items n same whole =
    ap (λ rest. take n (new ++ rest)) (drop_all (length new) items (omega (arith, same)))
    ∙ ap (take n) (append-nil new)
    ∙ take_all n new (omega (arith, same, whole))

-- the most of what f says of one more item
pub most_of_one_more : {X : Type 0} (f : X → ℕ) (xs : List X) (place : ℕ) (x : X) → slice_get xs place ≡ Some x
    → max (fold max 0 (map f (take place xs))) (f x) ≡ fold max 0 (map f (take (place + 1) xs))
most_of_one_more f xs place x is =
    sym (fold-append max 0 (map f (take place xs)) (f x ∷ []))
    ∙ ap (fold max 0) (sym (map-append f (take place xs) (x ∷ [])))
    ∙ ap (λ items. fold max 0 (map f items)) (sym (one_more_taken xs place x is))
