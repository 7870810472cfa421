-- How many of a list pass a test.
use Rattle.std.proofs.{lemmas.List.{Elements.filter-append, length-append}, Common.{◌≡◌, ap, ◌+◌, ◌≤◌, arith, true, false, Bool, List, [], ◌∷◌, ◌++◌, length, refl, ◌∙◌, sym, cond}}
use Rattle.std.specs.{Prelude.{Some, find}, List.filter}

-- of two lists
pub together : {X : Type 0} (p : X → Bool) (xs ys : List X) → length (filter p (xs ++ ys)) ≡ length (filter p xs) + length (filter p ys)
together p xs ys = ap length (filter-append p xs ys) ∙ length-append (filter p xs) (filter p ys)

-- a test that holds less often passes no more
pub fewer_pass : {X : Type 0} (p q : X → Bool) → ((x : X) → q x ≡ true → p x ≡ true) → (xs : List X) → length (filter q xs) ≤ length (filter p xs)
fewer_pass p q implies [] = omega arith
fewer_pass {X} p q implies (x ∷ xs) = at (p x) refl (q x) refl (fewer_pass p q implies xs)
  where
    at : (b : Bool) → p x ≡ b → (c : Bool) → q x ≡ c → length (filter q xs) ≤ length (filter p xs)
        → length (cond c (x ∷ filter q xs) (filter q xs)) ≤ length (cond b (x ∷ filter p xs) (filter p xs))
    at true is true so h = omega arith
    at true is false so h = omega arith
    at false is false so h = h
    at false is true so h = let clash : false ≡ true = sym is ∙ implies x so in cc

-- and less, where one that is found passes no more
pub one_less_passes : {X : Type 0} (p q t : X → Bool) → ((x : X) → q x ≡ true → p x ≡ true) → ((x : X) → t x ≡ true → (p x ≡ true) × (q x ≡ false))
    → (xs : List X) (y : X) → find t xs ≡ Some y → length (filter q xs) + 1 ≤ length (filter p xs)
one_less_passes p q t implies this [] y found = cc
one_less_passes {X} p q t implies this (x ∷ xs) y found = at (t x) refl found (λ h. one_less_passes p q t implies this xs y h)
  where
    here : (b : Bool) → p x ≡ b → (c : Bool) → q x ≡ c → t x ≡ true → length (filter q xs) ≤ length (filter p xs)
        → length (cond c (x ∷ filter q xs) (filter q xs)) + 1 ≤ length (cond b (x ∷ filter p xs) (filter p xs))
    here true is false so it h = omega arith
    here true is true so it h = let clash : true ≡ false = sym so ∙ (this x it).1 in cc
    here false is c so it h = let clash : false ≡ true = sym is ∙ (this x it).0 in cc

    later : (b : Bool) → p x ≡ b → (c : Bool) → q x ≡ c → length (filter q xs) + 1 ≤ length (filter p xs)
        → length (cond c (x ∷ filter q xs) (filter q xs)) + 1 ≤ length (cond b (x ∷ filter p xs) (filter p xs))
    later true is true so h = omega arith
    later true is false so h = omega arith
    later false is false so h = h
    later false is true so h = let clash : false ≡ true = sym is ∙ implies x so in cc

    at : (b : Bool) → t x ≡ b → cond b (Some x) (find t xs) ≡ Some y → (find t xs ≡ Some y → length (filter q xs) + 1 ≤ length (filter p xs))
        → length (cond (q x) (x ∷ filter q xs) (filter q xs)) + 1 ≤ length (cond (p x) (x ∷ filter p xs) (filter p xs))
    at true it h deeper = here (p x) refl (q x) refl it (fewer_pass p q implies xs)
    at false it h deeper = later (p x) refl (q x) refl (deeper h)
