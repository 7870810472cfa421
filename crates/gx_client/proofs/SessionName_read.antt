-- A session's name is read back from the right of its field.
use Rattle.std.proofs.{Common.{◌≡◌, ℕ, ◌-◌, ◌+◌, Bool, true, false, cond, ◌&&◌, List, [], ◌∷◌, ◌++◌, length, replicate, refl, ap, ◌∙◌, arith}, lemmas.List.{length-append, length-replicate}}
use Rattle.gx_units.specs.Spelling.{is_space, is_blank, padded_to, padded_left, without_left_spaces, without_right_spaces, trimmed_text}
use Rattle.gx_soup.proofs.Number_read.{spaces_dropped}

-- a text without the spaces on its right is blank where the text is
blank_kept : (text : List ℕ) → is_blank (without_right_spaces text) ≡ is_blank text
blank_kept [] = refl
blank_kept (c ∷ cs) = by (is_blank (c ∷ cs)) refl (blank_kept cs)
  where
    by : (b : Bool) → is_blank (c ∷ cs) ≡ b → is_blank (without_right_spaces cs) ≡ is_blank cs → is_blank (cond b [] (c ∷ without_right_spaces cs)) ≡ b
    by true h k = refl
    by false h k = ap (λ (b : Bool). is_space c && b) k ∙ h

right_again : (text : List ℕ) → without_right_spaces (without_right_spaces text) ≡ without_right_spaces text
right_again [] = refl
right_again (c ∷ cs) = by (is_blank (c ∷ cs)) refl (right_again cs)
  where
    by : (b : Bool) → is_blank (c ∷ cs) ≡ b → without_right_spaces (without_right_spaces cs) ≡ without_right_spaces cs
        → without_right_spaces (cond b [] (c ∷ without_right_spaces cs)) ≡ cond b [] (c ∷ without_right_spaces cs)
    by true h k = refl
    by false h k =
        ap (λ (b : Bool). cond b [] (c ∷ without_right_spaces (without_right_spaces cs))) (ap (λ (b : Bool). is_space c && b) (blank_kept cs) ∙ h)
        ∙ ap (λ (rest : List ℕ). c ∷ rest) k

left_again : (text : List ℕ) → without_left_spaces (trimmed_text text) ≡ trimmed_text text
left_again [] = refl
left_again (c ∷ cs) = by (is_space c) refl (left_again cs)
  where
    front : (b : Bool) → is_space c ≡ false → without_left_spaces (cond b [] (c ∷ without_right_spaces cs)) ≡ cond b [] (c ∷ without_right_spaces cs)
    front true h = refl
    front false h = ap (λ (b : Bool). cond b (without_left_spaces (without_right_spaces cs)) (c ∷ without_right_spaces cs)) h

    by : (b : Bool) → is_space c ≡ b → without_left_spaces (trimmed_text cs) ≡ trimmed_text cs
        → without_left_spaces (without_right_spaces (cond b (without_left_spaces cs) (c ∷ cs))) ≡ without_right_spaces (cond b (without_left_spaces cs) (c ∷ cs))
    by true h k = k
    by false h k = front (is_blank (c ∷ cs)) h

-- a trimmed text with spaces in front is trimmed to itself
trimmed_back : (k : ℕ) (text : List ℕ) → trimmed_text (replicate k 32 ++ trimmed_text text) ≡ trimmed_text text
trimmed_back k text =
    ap without_right_spaces (spaces_dropped k (trimmed_text text) ∙ left_again text) ∙ right_again (without_left_spaces text)

-- the name from the right of a field is on the left of it again
pub name_back : (name : List ℕ) → padded_to 10 (trimmed_text name) ≡ name → padded_to 10 (trimmed_text (padded_left 10 (trimmed_text name))) ≡ name
name_back name folded = ap (padded_to 10) (trimmed_back (10 - length (trimmed_text name)) name) ∙ folded

sums : (whole text spaces n : ℕ) → whole ≡ text + spaces → spaces ≡ n → whole ≡ 10 → n + text ≡ 10
sums whole text spaces n a b c = omega arith

joined : (whole spaces text n : ℕ) → whole ≡ spaces + text → spaces ≡ n → n + text ≡ 10 → whole ≡ 10
joined whole spaces text n a b c = omega arith

-- a name that fills ten bytes has ten on the right of its field
pub name_length : (name : List ℕ) → padded_to 10 (trimmed_text name) ≡ name → length name ≡ 10 → length (padded_left 10 (trimmed_text name)) ≡ 10
name_length name folded size =
    let k = 10 - length (trimmed_text name) in
    let spaces : List ℕ = replicate k 32 in
    let count : length spaces ≡ k = length-replicate {A = ℕ} k 32 in
    joined _ (length spaces) (length (trimmed_text name)) k (length-append spaces (trimmed_text name)) count
    (sums _ (length (trimmed_text name)) (length spaces) k (length-append (trimmed_text name) spaces) count (ap length folded ∙ size))
