-- What holds of each element, by recursion on the list as definitions say it: std's lemmas, over the same by places, and a few more.
use Rattle.std.proofs.{Common.{◌≡◌, ℕ, ◌<◌, get_or, Bool, true, false, cond, List, [], ◌∷◌, ◌++◌, map, refl, subst}, lemmas.{List.{Elements.{All-append, All-filter, All-from_recursion, All-map, All-push, All-weaker, filter_passes, recursion_from_All}, Sums.{AllPass-from_list_all, list_all-from_AllPass}}, Option.same_Some}}
use Rattle.std.specs.{Prelude.{Option, Some, None, find}, List.{AllByRecursion, cons_option, filter, filter_map, list_all, list_any, slice_index_or}}
use Rattle.gx_units.proofs.Test_known.{left_false, right_false}

pub every : {X : Type 0} (P : X → Type 0) → ((x : X) → P x) → (xs : List X) → AllByRecursion P xs
every P h xs = recursion_from_All P xs (λ k d within. h (slice_index_or xs k d))

pub all_weaker : {X : Type 0} (P Q : X → Type 0) → ((x : X) → P x → Q x) → (xs : List X) → AllByRecursion P xs → AllByRecursion Q xs
all_weaker P Q step xs h = recursion_from_All Q xs (All-weaker P Q step xs (All-from_recursion P xs h))

pub all_both : {X : Type 0} (P : X → Type 0) (xs ys : List X) → AllByRecursion P xs → AllByRecursion P ys → AllByRecursion P (xs ++ ys)
all_both P xs ys h k = recursion_from_All P (xs ++ ys) (All-append P xs ys (All-from_recursion P xs h) (All-from_recursion P ys k))

pub all_next : {X : Type 0} (P : X → Type 0) (xs : List X) (x : X) → AllByRecursion P xs → P x → AllByRecursion P (xs ++ x ∷ [])
all_next P xs x h p = recursion_from_All P (xs ++ x ∷ []) (All-push P xs x (All-from_recursion P xs h) p)

pub all_mapped : {X Y : Type 0} (P : Y → Type 0) (f : X → Y) (xs : List X) → AllByRecursion (λ (x : X). P (f x)) xs → AllByRecursion P (map f xs)
all_mapped P f xs h = recursion_from_All P (map f xs) (All-map P f xs (All-from_recursion (λ x. P (f x)) xs h))

pub filtered : {X : Type 0} (P : X → Type 0) (test : X → Bool) (xs : List X) → AllByRecursion P xs → AllByRecursion P (filter test xs)
filtered P test xs h = recursion_from_All P (filter test xs) (All-filter test P xs (All-from_recursion P xs h))

pub all_pass : {X : Type 0} (p : X → Bool) (xs : List X) → AllByRecursion (λ (x : X). p x ≡ true) (filter p xs)
all_pass p xs = recursion_from_All (λ x. p x ≡ true) (filter p xs) (filter_passes p xs)

pub all_before : {X : Type 0} (P : X → Type 0) (xs : List X) (x : X) → AllByRecursion P (xs ++ x ∷ []) → AllByRecursion P xs × P x
all_before P [] x h = (tt, h.0)
all_before P (y ∷ xs) x h =
    let rest : AllByRecursion P xs × P x = all_before P xs x h.1 in
    ((h.0, rest.0), rest.1)

pub all_parted : {X : Type 0} (P : X → Type 0) (xs ys : List X) → AllByRecursion P (xs ++ ys) → AllByRecursion P xs × AllByRecursion P ys
all_parted P [] ys h = (tt, h)
all_parted P (x ∷ xs) ys h = let rest : AllByRecursion P xs × AllByRecursion P ys = all_parted P xs ys h.1 in ((h.0, rest.0), rest.1)

pub all_and : {X : Type 0} (P Q : X → Type 0) (xs : List X) → AllByRecursion P xs → AllByRecursion Q xs → AllByRecursion (λ (x : X). P x × Q x) xs
all_and P Q [] h k = tt
all_and P Q (x ∷ xs) h k = ((h.0, k.0), all_and P Q xs h.1 k.1)

-- what is found of each
pub all_found_of : {X Y : Type 0} (Q : X → Type 0) (P : Y → Type 0) (f : X → Option Y) → ((x : X) (y : Y) → Q x → f x ≡ Some y → P y) → (xs : List X) → AllByRecursion Q xs → AllByRecursion P (filter_map f xs)
all_found_of Q P f h [] k = tt
all_found_of {X} {Y} Q P f h (x ∷ xs) k = at (f x) refl (all_found_of Q P f h xs k.1)
  where
    at : (found : Option Y) → f x ≡ found → AllByRecursion P (filter_map f xs) → AllByRecursion P (cons_option found (filter_map f xs))
    at None e rest = rest
    at (Some y) e rest = (h x y k.0 e, rest)

found_first : {X : Type 0} (P : X → Type 0) (b : Bool) (y : X) (rest : Option X) (x : X) → P y → (rest ≡ Some x → P x) → cond b (Some y) rest ≡ Some x → P x
found_first P true y rest x h k e = subst P (same_Some _ _ e) h
found_first P false y rest x h k e = k e

pub found_is : {X : Type 0} (P : X → Type 0) (test : X → Bool) (xs : List X) (x : X) → AllByRecursion P xs → find test xs ≡ Some x → P x
found_is P test [] x h e = cc
found_is P test (y ∷ xs) x h e = found_first P (test y) y (find test xs) x h.0 (found_is P test xs x h.1) e

-- none of a list passes where no element does
pub none_pass : {X : Type 0} (p : X → Bool) (xs : List X) → list_any p xs ≡ false → AllByRecursion (λ (x : X). p x ≡ false) xs
none_pass p [] h = tt
none_pass p (x ∷ xs) h = (left_false (p x) (list_any p xs) h, none_pass p xs (right_false (p x) (list_any p xs) h))

pub all_imply : {X : Type 0} (p q : X → Bool) (xs : List X) → ((x : X) → p x ≡ true → q x ≡ true) → list_all p xs ≡ true → list_all q xs ≡ true
all_imply p q xs step h = list_all-from_AllPass q xs (λ k d within. step _ (AllPass-from_list_all p xs h k d within))

-- each is a byte
abbrev pub IsBytes : List ℕ → Type 0
IsBytes bytes = (i : ℕ) → get_or bytes i 0 < 256
