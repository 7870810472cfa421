-- A number that was written with spaces in front is read back.
use Rattle.std.proofs.{Common.{◌≡◌, ℕ, zero, suc, ◌-◌, ◌^◌, ◌<◌, min, true, false, cond, ◌&&◌, List, [], ◌∷◌, ◌++◌, length, replicate, fold, Some, None, refl, ap, ◌∙◌, arith, rules, decimal}, lemmas.{Bool.Decides.nat_tests, Str.Parse.{IsNumeralModel, numerals_by_fold}, Fmt.{digits_value-decimal, decimal_is_IsNumeral}}}
use Rattle.std.specs.{Int.IsInRange, List.list_all, Char.is_ascii_digit}
use Rattle.gx_units.specs.Spelling.{is_space, is_blank, without_left_spaces, without_right_spaces, trimmed_text}
use Rattle.gx_soup.specs.{Login.{greatest, with_digit, spelled_number, number_of}, Writing.number_field}

-- the digits of a number
abbrev pub AreDigits : List ℕ → Type 0
AreDigits [] = Unit {0}
AreDigits (c ∷ cs) = IsInRange 48 57 c × AreDigits cs

pub numerals : IsNumeralModel AreDigits spelled_number
numerals = numerals_by_fold _ (search rules) (fold with_digit) (search rules)

digit_is : (c : ℕ) → IsInRange 48 57 c → is_ascii_digit c ≡ true
digit_is c h = grind (arith, nat_tests, h)

no_space : (c : ℕ) → IsInRange 48 57 c → is_space c ≡ false
no_space c h = grind (arith, nat_tests, h)

pub digits_are : (ds : List ℕ) → AreDigits ds → list_all is_ascii_digit ds ≡ true
digits_are [] d = refl
digits_are (c ∷ cs) d = ap (λ b. b && list_all is_ascii_digit cs) (digit_is c d.0) ∙ digits_are cs d.1

right_kept : (ds : List ℕ) → AreDigits ds → without_right_spaces ds ≡ ds
right_kept [] d = refl
right_kept (c ∷ cs) d =
    ap (λ b. cond (b && is_blank cs) [] (c ∷ without_right_spaces cs)) (no_space c d.0) ∙ ap (λ rest. c ∷ rest) (right_kept cs d.1)

left_kept : (ds : List ℕ) → AreDigits ds → without_left_spaces ds ≡ ds
left_kept [] d = refl
left_kept (c ∷ cs) d = ap (λ b. cond b (without_left_spaces cs) (c ∷ cs)) (no_space c d.0)

pub spaces_dropped : (k : ℕ) (ds : List ℕ) → without_left_spaces (replicate k 32 ++ ds) ≡ without_left_spaces ds
spaces_dropped zero ds = refl
spaces_dropped (suc k) ds = spaces_dropped k ds

trimmed_is : (k : ℕ) (ds : List ℕ) → AreDigits ds → trimmed_text (replicate k 32 ++ ds) ≡ ds
trimmed_is k ds d = ap without_right_spaces (spaces_dropped k ds ∙ left_kept ds d) ∙ right_kept ds d

below_greatest : (n : ℕ) → n < 2 ^ 64 → min n greatest ≡ n
below_greatest n h = omega (arith, h)

number_read_as : (field ds : List ℕ) (n : ℕ) → trimmed_text field ≡ ds → AreDigits ds → spelled_number ds ≡ n → n < 2 ^ 64 → number_of field ≡ Some n
number_read_as field ds n t d e h =
    ap (λ text. cond (list_all is_ascii_digit text) (Some (min (spelled_number text) greatest)) None) t
    ∙ (ap (λ b. cond b (Some (min (spelled_number ds) greatest)) None) (digits_are ds d)
    ∙ (ap (λ m. Some (min m greatest)) e ∙ ap Some (below_greatest n h)))

pub number_read : (n : ℕ) → n < 2 ^ 64 → number_of (number_field n) ≡ Some n
number_read n h =
    let d : AreDigits (decimal n) = numerals.from (decimal n) (decimal_is_IsNumeral n h).0.1 in
    number_read_as (number_field n) (decimal n) n (trimmed_is (20 - length (decimal n)) (decimal n) d) d (digits_value-decimal numerals n h) h
