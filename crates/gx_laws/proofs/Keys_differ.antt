-- Lists in which no two have one key.
use Rattle.std.proofs.{Common.{◌≡◌, ℕ, Bool, true, List, [], ◌∷◌, ◌++◌, refl, ◌∙◌, ap, sym, cond, inl, inr}, lemmas.Bool.{eq-eqb, ne_eqb, or_right}}
use Rattle.std.specs.{Prelude.{Some, find, ◌==◌, ◌||◌}, List.{list_any, AllByRecursion}}
use Rattle.gx_units.proofs.Lists_hold.{all_weaker, all_both}
use Rattle.gx_laws.proofs.Lists_members.{IsIn, IsItOrOther, of_all}

-- y has another key than x
abbrev pub IsApartFrom : {X : Type 0} → (X → ℕ) → X → X → Type 0
IsApartFrom key x y = key y ≡ key x → ⊥

abbrev pub AreApart : {X : Type 0} → (X → ℕ) → List X → Type 0
AreApart key [] = Unit {0}
AreApart {X} key (x ∷ xs) = AllByRecursion (IsApartFrom key x) xs × AreApart key xs

apart_next_of : {X : Type 0} (key : X → ℕ) (x y : X) → IsApartFrom key x y → IsApartFrom key y x
apart_next_of key x y h e = h (sym e)

-- one more, of a new key
pub apart_next : {X : Type 0} (key : X → ℕ) (xs : List X) (x : X) → AreApart key xs → AllByRecursion (IsApartFrom key x) xs → AreApart key (xs ++ x ∷ [])
apart_next key [] x h new = (tt, tt)
apart_next key (y ∷ xs) x h new = (all_both (IsApartFrom key y) xs (x ∷ []) h.0 (apart_next_of key x y new.0, tt), apart_next key xs x h.1 new.1)

-- each is found by its key
abbrev pub IsFoundIn : {X : Type 0} → (X → ℕ) → List X → X → Type 0
IsFoundIn key xs x = find (λ y. key y == key x) xs ≡ Some x

pub apart_are_found : {X : Type 0} (key : X → ℕ) (xs : List X) → AreApart key xs → AllByRecursion (IsFoundIn key xs) xs
apart_are_found key [] h = tt
apart_are_found {X} key (x ∷ xs) h =
    (ap (λ (b : Bool). cond b (Some x) (find (λ y. key y == key x) xs)) (eq-eqb (key x) (key x) refl), later xs h.0 (apart_are_found key xs h.1))
  where
    later : (ys : List X) → AllByRecursion (IsApartFrom key x) ys → AllByRecursion (IsFoundIn key xs) ys → AllByRecursion (IsFoundIn key (x ∷ xs)) ys
    later [] a b = tt
    later (y ∷ ys) a b = (ap (λ (c : Bool). cond c (Some x) (find (λ z. key z == key y) xs)) (ne_eqb (key x) (key y) (λ e. a.0 (sym e))) ∙ b.0, later ys a.1 b.1)

-- each number is among its list
pub all_members : (ns : List ℕ) → AllByRecursion (λ (n : ℕ). list_any (λ m. m == n) ns ≡ true) ns
all_members [] = tt
all_members (n ∷ ns) = (
  ap (λ (b : Bool). b || list_any (λ m. m == n) ns) (eq-eqb n n refl),
  all_weaker (λ (k : ℕ). list_any (λ m. m == k) ns ≡ true) (λ (k : ℕ). (n == k || list_any (λ m. m == k) ns) ≡ true) (λ k h. or_right (n == k) _ h) ns (all_members ns),
)

-- each is x itself, or has another key
pub others_apart : {X : Type 0} (key : X → ℕ) (x : X) (xs : List X) → AreApart key xs → IsIn x xs → AllByRecursion (IsItOrOther (λ a b. key a == key b) x) xs
others_apart key x [] h k = tt
others_apart {X} key x (y ∷ ys) h (inl e) =
    (inl e, all_weaker (IsApartFrom key y) (IsItOrOther (λ a b. key a == key b) x) (λ (z : X) (d : IsApartFrom key y z). inr (ne_eqb (key z) (key x) (λ same. d (same ∙ ap key (sym e))))) ys h.0)
others_apart key x (y ∷ ys) h (inr k) = (inr (ne_eqb (key y) (key x) (λ same. of_all (IsApartFrom key y) x ys h.0 k (sym same))), others_apart key x ys h.1 k)
