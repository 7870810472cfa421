-- What a last byte changes of a text without the spaces on its right.
use Rattle.std.proofs.{Common.{◌≡◌, ℕ, ◌+◌, ◌<◌, true, false, ◌&&◌, cond, List, [], ◌∷◌, ◌++◌, length, take, get_or, refl, sym, ap, ◌∙◌}, lemmas.List.{Folds.list_all-append, take_more}}
use Rattle.gx_units.specs.Spelling.{is_space, is_blank, without_right_spaces}
use Rattle.gx_units.proofs.Test_known.{and_true, and_false}

blank_more : (xs : List ℕ) (c : ℕ) → is_blank (xs ++ c ∷ []) ≡ (is_blank xs && (is_space c && true))
blank_more xs c = list_all-append is_space xs (c ∷ [])

space_more : (xs : List ℕ) → is_blank (xs ++ 32 ∷ []) ≡ is_blank xs
space_more xs = blank_more xs 32 ∙ and_true (is_blank xs)

other_more : (xs : List ℕ) (c : ℕ) → is_space c ≡ false → is_blank (xs ++ c ∷ []) ≡ false
other_more xs c h = blank_more xs c ∙ (ap (λ b. is_blank xs && (b && true)) h ∙ and_false (is_blank xs))

-- a space behind the text changes nothing
pub trimmed_of_space : (xs : List ℕ) → without_right_spaces (xs ++ 32 ∷ []) ≡ without_right_spaces xs
trimmed_of_space [] = refl
trimmed_of_space (x ∷ xs) =
    ap (λ b. cond b [] (x ∷ without_right_spaces (xs ++ 32 ∷ []))) (space_more (x ∷ xs))
    ∙ ap (λ rest. cond (is_blank (x ∷ xs)) [] (x ∷ rest)) (trimmed_of_space xs)

-- a text whose last byte is no space is whole
pub trimmed_of_other : (xs : List ℕ) (c : ℕ) → is_space c ≡ false → without_right_spaces (xs ++ c ∷ []) ≡ xs ++ c ∷ []
trimmed_of_other [] c h = ap (λ b. cond (b && true) [] (c ∷ [])) h
trimmed_of_other (x ∷ xs) c h =
    ap (λ b. cond b [] (x ∷ without_right_spaces (xs ++ c ∷ []))) (other_more (x ∷ xs) c h)
    ∙ ap (λ rest. x ∷ rest) (trimmed_of_other xs c h)

-- the same of the first bytes of a text
pub space_taken : (xs : List ℕ) (i : ℕ) → i < length xs → get_or xs i 0 ≡ 32 → without_right_spaces (take (i + 1) xs) ≡ without_right_spaces (take i xs)
space_taken xs i h e =
    ap without_right_spaces (take_more xs i 0 h ∙ ap (λ c. take i xs ++ c ∷ []) e) ∙ trimmed_of_space (take i xs)

pub other_taken : (xs : List ℕ) (i : ℕ) → i < length xs → is_space (get_or xs i 0) ≡ false → without_right_spaces (take (i + 1) xs) ≡ take (i + 1) xs
other_taken xs i h e =
    ap without_right_spaces (take_more xs i 0 h) ∙ (trimmed_of_other (take i xs) (get_or xs i 0) e ∙ sym (take_more xs i 0 h))
