-- Elements of a list, and the one that differs from all others.
use Rattle.std.proofs.{Common.{◌≡◌, Bool, true, false, List, [], ◌∷◌, refl, ◌∙◌, ap, sym, ◌⊎◌, inl, inr}, Math.Path.subst}
use Rattle.std.specs.{Prelude.{◌&&◌, not}, List.{list_any, AllByRecursion}}
use Rattle.gx_units.proofs.Lists_hold.{all_weaker, none_pass}
use Rattle.gx_policy.specs.Lists.{are_distinct}

-- x is an element
abbrev pub IsIn : {X : Type 0} → X → List X → Type 0
IsIn x [] = ⊥
IsIn x (y ∷ ys) = (y ≡ x) ⊎ IsIn x ys

pub all_are_in : {X : Type 0} (xs : List X) → AllByRecursion (λ (x : X). IsIn x xs) xs
all_are_in [] = tt
all_are_in {X} (x ∷ xs) = (inl refl, all_weaker (λ (y : X). IsIn y xs) (λ (y : X). IsIn y (x ∷ xs)) (λ (y : X) h. inr h) xs (all_are_in xs))

-- what holds of all holds of it
pub of_all : {X : Type 0} (P : X → Type 0) (x : X) (xs : List X) → AllByRecursion P xs → IsIn x xs → P x
of_all P x [] h k = absurd k
of_all P x (y ∷ ys) h (inl e) = subst P e h.0
of_all P x (y ∷ ys) h (inr k) = of_all P x ys h.1 k

not_then : (b c : Bool) → (not b && c) ≡ true → (b ≡ false) × (c ≡ true)
not_then true c h = cc
not_then false c h = (refl, h)

-- each is x itself, or not the same as x
abbrev pub IsItOrOther : {X : Type 0} → (X → X → Bool) → X → X → Type 0
IsItOrOther same x y = (y ≡ x) ⊎ (same y x ≡ false)

pub others_differ : {X : Type 0} (same : X → X → Bool) → ((a b : X) → same a b ≡ same b a) → (x : X) (xs : List X) → are_distinct same xs ≡ true → IsIn x xs
    → AllByRecursion (IsItOrOther same x) xs
others_differ same swaps x [] h k = tt
others_differ {X} same swaps x (y ∷ ys) h (inl e) =
    let parts : (list_any (same y) ys ≡ false) × (are_distinct same ys ≡ true) = not_then (list_any (same y) ys) (are_distinct same ys) h in
    (inl e, all_weaker (λ (z : X). same y z ≡ false) (IsItOrOther same x) (λ (z : X) (d : same y z ≡ false). inr (swaps z x ∙ ap (λ (w : X). same w z) (sym e) ∙ d)) ys (none_pass (same y) ys parts.0))
others_differ {X} same swaps x (y ∷ ys) h (inr k) =
    let parts : (list_any (same y) ys ≡ false) × (are_distinct same ys ≡ true) = not_then (list_any (same y) ys) (are_distinct same ys) h in
    (inr (of_all (λ (z : X). same y z ≡ false) x ys (none_pass (same y) ys parts.0) k), others_differ same swaps x ys parts.1 k)
