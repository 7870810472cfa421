-- Rows that are made one behind the other, one for each of a list.
use Rattle.std.proofs.{Common.{◌≡◌, ℕ, ◌+◌, ◌<◌, ◌≤◌, List, [], ◌∷◌, ◌++◌, length, map, take, get_or, sym, ap, ◌∙◌}, lemmas.List.{map-append, take_all, take_more}}

-- one more of them
pub row_more : {A B : Type 0} (f : A → B) (xs : List A) (i : ℕ) (d : A) (before after : List B) (row : B) → i < length xs → before ≡ map f (take i xs) → after ≡ before ++ row ∷ [] → row ≡ f (get_or xs i d) → after ≡ map f (take (i + 1) xs)
row_more f xs i d before after row within was put is =
    put
    ∙ (λ j. was j ++ is j ∷ [])
    ∙ sym (map-append f (take i xs) (get_or xs i d ∷ []))
    ∙ sym (ap (map f) (take_more xs i d within))

-- all of them
pub rows_all : {A B : Type 0} (f : A → B) (xs : List A) (i : ℕ) (rows : List B) → length xs ≤ i → rows ≡ map f (take i xs) → rows ≡ map f xs
rows_all f xs i rows past was = was ∙ ap (map f) (take_all i xs past)
