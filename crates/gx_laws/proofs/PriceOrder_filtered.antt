-- What a filter leaves of a list in the order of prices is the order of what the filter leaves.
use Rattle.std.proofs.{Common.{◌≡◌, ℕ, ◌<◌, ◌≤◌, Bool, true, false, not, List, [], ◌∷◌, ◌++◌, refl, ◌∙◌, ap, sym, cond, arith, append_assoc, fold}, lemmas.{Bool.{lt-ltb, le-ltb, ltb-true, ltb-false, not-true}, List.{Elements.filter-append, append-nil}}}
use Rattle.std.specs.{Prelude.nat_lt, List.filter}
use Rattle.gx_units.proofs.Lists_found.{filter_swap}
use Rattle.gx_policy.specs.Lists.{inserted_behind, in_order}
use Rattle.gx_laws.proofs.PriceOrder_placed.{placed_filter}

-- being better goes on, and so does being no better
pub record IsRanking {X : Type 0} (better : X → X → Bool) : Type 0 where
  pub goes_on : (a b c : X) → better a b ≡ true → better b c ≡ true → better a c ≡ true
  pub stays_behind : (a b c : X) → better a b ≡ false → better b c ≡ false → better a c ≡ false

-- those that x does not better, and then those that it does, are the list again
abbrev pub IsParted : {X : Type 0} → (X → X → Bool) → List X → Type 0
IsParted {X} better xs = (x : X) → filter (λ y. not (better x y)) xs ++ filter (better x) xs ≡ xs

filter_keeps : {X : Type 0} (p q : X → Bool) → ((x : X) → p x ≡ true → q x ≡ true) → (xs : List X) → filter q (filter p xs) ≡ filter p xs
filter_keeps p q h [] = refl
filter_keeps {X} p q h (x ∷ xs) = at (p x) refl (filter_keeps p q h xs)
  where
    at : (b : Bool) → p x ≡ b → filter q (filter p xs) ≡ filter p xs → filter q (cond b (x ∷ filter p xs) (filter p xs)) ≡ cond b (x ∷ filter p xs) (filter p xs)
    at true e rest = ap (λ (b : Bool). cond b (x ∷ filter q (filter p xs)) (filter q (filter p xs))) (h x e) ∙ ap (λ (ys : List X). x ∷ ys) rest
    at false e rest = rest

filter_drops : {X : Type 0} (p q : X → Bool) → ((x : X) → p x ≡ true → q x ≡ false) → (xs : List X) → filter q (filter p xs) ≡ []
filter_drops p q h [] = refl
filter_drops {X} p q h (x ∷ xs) = at (p x) refl (filter_drops p q h xs)
  where
    at : (b : Bool) → p x ≡ b → filter q (filter p xs) ≡ [] → filter q (cond b (x ∷ filter p xs) (filter p xs)) ≡ []
    at true e rest = ap (λ (b : Bool). cond b (x ∷ filter q (filter p xs)) (filter q (filter p xs))) (h x e) ∙ rest
    at false e rest = rest

-- a part of such a list is such a list
parted_filter : {X : Type 0} (better : X → X → Bool) (p : X → Bool) (xs : List X) → IsParted better xs → IsParted better (filter p xs)
parted_filter {X} better p xs parted x =
    ap (λ (ys : List X). ys ++ filter (better x) (filter p xs)) (filter_swap (λ y. not (better x y)) p xs)
    ∙ ap (λ (ys : List X). filter p (filter (λ y. not (better x y)) xs) ++ ys) (filter_swap (better x) p xs)
    ∙ sym (filter-append p (filter (λ y. not (better x y)) xs) (filter (better x) xs))
    ∙ ap (filter p) (parted x)

-- and so is such a list with one more in its place
pub placed_parted : {X : Type 0} (better : X → X → Bool) → IsRanking better → (xs : List X) (z : X) → IsParted better xs → IsParted better (inserted_behind better xs z)
placed_parted {X} better ranks xs z parted x =
    ap (λ (ys : List X). ys ++ filter (better x) (ahead ++ z ∷ behind)) (filter-append no_worse ahead (z ∷ behind))
    ∙ ap (λ (ys : List X). (filter no_worse ahead ++ filter no_worse (z ∷ behind)) ++ ys) (filter-append (better x) ahead (z ∷ behind))
    ∙ at (better x z) refl
  where
    no_worse : X → Bool
    no_worse y = not (better x y)

    ahead : List X
    ahead = filter (λ y. not (better z y)) xs

    behind : List X
    behind = filter (better z) xs

    at : (b : Bool) → better x z ≡ b
        → (filter no_worse ahead ++ cond (not b) (z ∷ filter no_worse behind) (filter no_worse behind)) ++ (filter (better x) ahead ++ cond b (z ∷ filter (better x) behind) (filter (better x) behind))
        ≡ ahead ++ z ∷ behind
    at true e =
        ap (λ (ys : List X). (filter no_worse ahead ++ ys) ++ (filter (better x) ahead ++ z ∷ filter (better x) behind))
        (filter_drops (better z) no_worse (λ y k. ap not (ranks.goes_on x z y e k)) xs)
        ∙ ap (λ (ys : List X). (filter no_worse ahead ++ []) ++ (filter (better x) ahead ++ z ∷ ys)) (filter_keeps (better z) (better x) (λ y k. ranks.goes_on x z y e k) xs)
        ∙ ap (λ (ys : List X). ys ++ (filter (better x) ahead ++ z ∷ behind)) (append-nil (filter no_worse ahead))
        ∙ sym (append_assoc (filter no_worse ahead) (filter (better x) ahead) (z ∷ behind))
        ∙ ap (λ (ys : List X). ys ++ z ∷ behind) (parted_filter better (λ y. not (better z y)) xs parted x)
    at false e =
        ap (λ (ys : List X). (ys ++ z ∷ filter no_worse behind) ++ (filter (better x) ahead ++ filter (better x) behind))
        (filter_keeps (λ y. not (better z y)) no_worse (λ y k. ap not (ranks.stays_behind x z y e (not-true (better z y) k))) xs)
        ∙ ap (λ (ys : List X). (ahead ++ z ∷ filter no_worse behind) ++ (ys ++ filter (better x) behind))
        (filter_drops (λ y. not (better z y)) (better x) (λ y k. ranks.stays_behind x z y e (not-true (better z y) k)) xs)
        ∙ append_assoc ahead (z ∷ filter no_worse behind) (filter (better x) behind)
        ∙ ap (λ (ys : List X). ahead ++ z ∷ ys) (parted_filter better (better z) xs parted x)

filter_places : {X : Type 0} (better : X → X → Bool) → IsRanking better → (q : X → Bool) (earlier xs : List X) → IsParted better earlier
    → fold (inserted_behind better) (filter q earlier) (filter q xs) ≡ filter q (fold (inserted_behind better) earlier xs)
filter_places better ranks q earlier [] parted = refl
filter_places {X} better ranks q earlier (x ∷ xs) parted =
    at (q x) (placed_filter better q earlier x) ∙ filter_places better ranks q (inserted_behind better earlier x) xs (placed_parted better ranks earlier x parted)
  where
    at : (b : Bool)
        → filter q (inserted_behind better earlier x) ≡ cond b (inserted_behind better (filter q earlier) x) (filter q (filter (λ y. not (better x y)) earlier) ++ filter q (filter (better x) earlier))
        → fold (inserted_behind better) (filter q earlier) (cond b (x ∷ filter q xs) (filter q xs)) ≡ fold (inserted_behind better) (filter q (inserted_behind better earlier x)) (filter q xs)
    at true e = ap (λ (ys : List X). fold (inserted_behind better) ys (filter q xs)) (sym e)
    at false e =
        ap (λ (ys : List X). fold (inserted_behind better) ys (filter q xs))
        (sym (e ∙ sym (filter-append q (filter (λ y. not (better x y)) earlier) (filter (better x) earlier)) ∙ ap (filter q) (parted x)))

-- a filter leaves the others in their order
pub in_order_filter : {X : Type 0} (better : X → X → Bool) → IsRanking better → (q : X → Bool) (xs : List X) → in_order better (filter q xs) ≡ filter q (in_order better xs)
in_order_filter better ranks q xs = filter_places better ranks q [] xs (λ x. refl)

pub lower : (a b c : ℕ) → nat_lt a b ≡ true → nat_lt b c ≡ true → nat_lt a c ≡ true
lower a b c h k =
    let first : a < b = ltb-true a b h in
    let second : b < c = ltb-true b c k in
    lt-ltb a c (omega arith)

pub no_lower : (a b c : ℕ) → nat_lt a b ≡ false → nat_lt b c ≡ false → nat_lt a c ≡ false
no_lower a b c h k =
    let first : b ≤ a = ltb-false a b h in
    let second : c ≤ b = ltb-false b c k in
    le-ltb a c (omega arith)
