-- Names and numbers that were read are spelled and in range.
use Rattle.std.proofs.{Common.{◌≡◌, ℕ, ℤ, pos, negsuc, zero, suc, ◌-◌, Bool, true, false, not, ◌&&◌, ◌||◌, nat_eq, List, [], ◌∷◌, ◌++◌, length, replicate, Ok, refl, sym, ap, ◌∙◌, inl, inr, subst, arith}, lemmas.{Bool.{cases_Bool, and_parts, false≢true, eqb-true, Decides.nat_tests}, List.{map-append, length-map, Folds.list_all-map}}}
use Rattle.std.specs.{Option.ok_or, List.list_all, Char.to_ascii_uppercase, Str.str_to_ascii_uppercase}
use Rattle.toml.specs.Data.{Data, Members, as_str, as_integer}
use Rattle.gx_units.specs.Spelling.{is_blank, padded_to, is_visible}
use Rattle.gx_units.proofs.Lists_hold.{all_imply}
use Rattle.gx_policy.specs.Soundness.{is_among, is_padded, is_spelled, is_folded}
use Rattle.gx_policyvalues.specs.{declared.fault.{FaultKind.TheVariants.BadValue, Letters.{Letters, TheVariants.Visible}}, Field.{is_letter, value_at, whole, number, number_at, text, checked_text, field, field_at}}
use Rattle.gx_policyfile.proofs.Step_parts.{bind_ok, passed, by_ok, and_both}

blank_spaces : (n : ℕ) → is_blank (replicate n 32) ≡ true
blank_spaces zero = refl
blank_spaces (suc n) = blank_spaces n

padded_spaces : (letter : ℕ → Bool) (n : ℕ) → is_padded letter (replicate n 32) ≡ true
padded_spaces letter zero = refl
padded_spaces letter (suc n) = or_right _ _ (blank_spaces n)
  where
    or_right : (a b : Bool) → b ≡ true → (a || b) ≡ true
    or_right true b h = refl
    or_right false b h = h

both : (a b c : Bool) → a ≡ true → b ≡ true → ((a && b) || c) ≡ true
both a b c p q = rw (p, q)

pub is_padded-append : (letter : ℕ → Bool) (s : List ℕ) (n : ℕ) → list_all letter s ≡ true → is_padded letter (s ++ replicate n 32) ≡ true
is_padded-append letter [] n h = padded_spaces letter n
is_padded-append letter (b ∷ s) n h =
    let (here, more) = and_parts (letter b) (list_all letter s) h in
    both (letter b) (is_padded letter (s ++ replicate n 32)) (is_blank (b ∷ (s ++ replicate n 32))) here (is_padded-append letter s n more)

no_space : (letter : ℕ → Bool) (b : ℕ) → letter 32 ≡ false → letter b ≡ true → nat_eq b 32 ≡ false
no_space letter b space h =
    elim (cases_Bool (nat_eq b 32)) [
      | inl is ↦ absurd (false≢true (sym space ∙ ap letter (sym (eqb-true b 32 is)) ∙ h))
      | inr not ↦ not
    ]

-- a text that was read, with the spaces behind it
pub spelled_padded : (letter : ℕ → Bool) (s : List ℕ) (width most : ℕ) → letter 32 ≡ false → (is_among 1 most (length s) && list_all letter s) ≡ true → is_spelled letter (padded_to width s) ≡ true
spelled_padded letter [] width most space h = absurd (false≢true h)
spelled_padded letter (b ∷ s) width most space h =
    let all : list_all letter (b ∷ s) ≡ true = (and_parts (is_among 1 most (length (b ∷ s))) (list_all letter (b ∷ s)) h).1 in
    let (here, more) = and_parts (letter b) (list_all letter s) all in
    let n = width - length (b ∷ s) in
    and_both _ _ (ap (λ t. not (t && is_blank (s ++ replicate n 32))) (no_space letter b space here)) (is_padded-append letter (b ∷ s) n all)

pub spelled_ok : (value : Data) (letters : Letters) (most : ℕ) (s : List ℕ) → text letters most value ≡ Ok s → (is_among 1 most (length s) && list_all (is_letter letters) s) ≡ true
spelled_ok value letters most s h =
    let (found, was, h1) = bind_ok (ok_or (as_str value) BadValue) (checked_text letters most) s h in
    let (fits, same) = passed (is_among 1 most (length found) && list_all (is_letter letters) found) _ BadValue s h1 in
    by_ok (λ t. (is_among 1 most (length t) && list_all (is_letter letters) t) ≡ true) found s same fits

-- a name's field: the text that was read, with spaces behind it
field_ok : (value : Data) (letters : Letters) (width : ℕ) (bytes : List ℕ) → field letters width value ≡ Ok bytes
    → (s : List ℕ) × (bytes ≡ padded_to width s) × ((is_among 1 width (length s) && list_all (is_letter letters) s) ≡ true)
field_ok value letters width bytes h =
    let (s, is, same) = bind_ok (text letters width value) _ bytes h in
    by_ok (λ b. (s : List ℕ) × (b ≡ padded_to width s) × ((is_among 1 width (length s) && list_all (is_letter letters) s) ≡ true)) (padded_to width s) bytes same
    (s, refl, spelled_ok value letters width s is)

pub field_spelled : (value : Data) (letters : Letters) (width : ℕ) (bytes : List ℕ) → is_letter letters 32 ≡ false → field letters width value ≡ Ok bytes → is_spelled (is_letter letters) bytes ≡ true
field_spelled value letters width bytes space h =
    let (s, is, fits) = field_ok value letters width bytes h in
    subst (λ b. is_spelled (is_letter letters) b ≡ true) (sym is) (spelled_padded (is_letter letters) s width width space fits)

pub field_at_spelled : (key : List ℕ) (letters : Letters) (width : ℕ) (entry : Members) (bytes : List ℕ) → is_letter letters 32 ≡ false → field_at key letters width entry ≡ Ok bytes → is_spelled (is_letter letters) bytes ≡ true
field_at_spelled key letters width entry bytes space h =
    let (value, is, h1) = bind_ok (value_at key entry) (field letters width) bytes h in
    field_spelled value letters width bytes space h1

pub whole_ok : (least most : ℕ) (z : ℤ) (n : ℕ) → whole least most z ≡ Ok n → is_among least most n ≡ true
whole_ok least most (pos m) n h =
    let (fits, same) = passed (is_among least most m) _ BadValue n h in
    by_ok (λ k. is_among least most k ≡ true) m n same fits
whole_ok least most (negsuc m) n h = absurd (cc)

pub number_ok : (key : List ℕ) (entry : Members) (least most : ℕ) (n : ℕ) → number_at key least most entry ≡ Ok n → is_among least most n ≡ true
number_ok key entry least most n h =
    let (value, is, h1) = bind_ok (value_at key entry) (number least most) n h in
    let (z, was, h2) = bind_ok (ok_or (as_integer value) BadValue) (whole least most) n h1 in
    whole_ok least most z n h2

upper_spaces : (n : ℕ) → str_to_ascii_uppercase (replicate n 32) ≡ replicate n 32
upper_spaces zero = refl
upper_spaces (suc n) = ap (λ xs. 32 ∷ xs) (upper_spaces n)

upper_folded : (b : ℕ) → is_visible b ≡ true → is_folded (to_ascii_uppercase b) ≡ true
upper_folded b h = grind (arith, nat_tests)

upper_padded : (width : ℕ) (s : List ℕ) → str_to_ascii_uppercase (padded_to width s) ≡ padded_to width (str_to_ascii_uppercase s)
upper_padded width s = map-append to_ascii_uppercase s (replicate (width - length s) 32) ∙ rw (upper_spaces (width - length s), length-map) refl

folded_spelled : (s : List ℕ) (width : ℕ) → (is_among 1 width (length s) && list_all is_visible s) ≡ true → is_spelled is_folded (str_to_ascii_uppercase (padded_to width s)) ≡ true
folded_spelled s width h =
    let (long, all) = and_parts (is_among 1 width (length s)) (list_all is_visible s) h in
    let up : list_all is_folded (str_to_ascii_uppercase s) ≡ true = list_all-map is_folded to_ascii_uppercase s ∙ all_imply is_visible _ s upper_folded all in
    subst (λ bytes. is_spelled is_folded bytes ≡ true) (sym (upper_padded width s))
    (spelled_padded is_folded (str_to_ascii_uppercase s) width width refl (and_both _ _ (rw length-map long) up))

-- the same, in upper case
pub folded_at_spelled : (key : List ℕ) (width : ℕ) (entry : Members) (bytes : List ℕ) → field_at key Visible width entry ≡ Ok bytes → is_spelled is_folded (str_to_ascii_uppercase bytes) ≡ true
folded_at_spelled key width entry bytes h =
    let (value, at, h1) = bind_ok (value_at key entry) (field Visible width) bytes h in
    let (s, is, fits) = field_ok value Visible width bytes h1 in
    subst (λ b. is_spelled is_folded (str_to_ascii_uppercase b) ≡ true) (sym is) (folded_spelled s width fits)
