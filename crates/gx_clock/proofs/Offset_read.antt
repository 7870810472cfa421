-- An offset is read from its text, and from no other.
use Rattle.std.proofs.{Common.{◌≡◌, ℕ, ◌+◌, ◌-◌, ◌*◌, ◌/◌, ◌%◌, ◌<◌, ◌≤◌, ◌==◌, Bool, true, false, cond, ◌&&◌, nat_lt, nat_le, List, [], ◌∷◌, Some, None, refl, sym, subst, ap, ◌∙◌, arith}, lemmas.{Bool.{false≢true, eqb-true, Decides.nat_tests}, Option.{cond_some, option_and_then_some}}}
use Rattle.std.specs.{Option.option_and_then, Char.is_ascii_digit}
use Rattle.gx_clock.specs.{declared.offset.UtcOffset.UtcOffset, Offsets.{most_minutes, two_digits, minutes_of, signed_offset, minutes_written, offset_of, minutes_in, tens, ones, text_of, offset_text}}

digit_is : (d : ℕ) → d < 10 → is_ascii_digit (48 + d) ≡ true
digit_is d h = grind (arith, nat_tests, h)

digits_mean : (n : ℕ) → (tens n - 48) * 10 + (ones n - 48) ≡ n
digits_mean n = omega arith

tens_are : (n : ℕ) → n < 100 → is_ascii_digit (tens n) ≡ true
tens_are n h = digit_is (n / 10) (omega (arith, h))

ones_are : (n : ℕ) → is_ascii_digit (ones n) ≡ true
ones_are n = digit_is (n % 10) (omega arith)

two_read : (n : ℕ) → n < 100 → two_digits (tens n) (ones n) ≡ Some n
two_read n h =
    ap (λ b. cond (b && is_ascii_digit (ones n)) (Some ((tens n - 48) * 10 + (ones n - 48))) None) (tens_are n h)
    ∙ (ap (λ b. cond b (Some ((tens n - 48) * 10 + (ones n - 48))) None) (ones_are n)
    ∙ ap Some (digits_mean n))

few_minutes : (n : ℕ) → n ≤ 840 → (nat_lt (n % 60) 60 && nat_le (n / 60 * 60 + n % 60) most_minutes) ≡ true
few_minutes n h = grind (arith, nat_tests, h)

minutes_are : (n : ℕ) → n / 60 * 60 + n % 60 ≡ n
minutes_are n = omega arith

minutes_read : (n : ℕ) → n ≤ 840 → minutes_of (n / 60) (n % 60) ≡ Some n
minutes_read n h =
    ap (λ b. cond b (Some (n / 60 * 60 + n % 60)) None) (few_minutes n h) ∙ ap Some (minutes_are n)

hours_are : (n : ℕ) → n ≤ 840 → n / 60 < 100
hours_are n h = omega (arith, h)

rest_is : (n : ℕ) → n % 60 < 100
rest_is n = omega arith

text_read : (n : ℕ) → n ≤ 840 → minutes_written (tens (n / 60)) (ones (n / 60)) (tens (n % 60)) (ones (n % 60)) ≡ Some n
text_read n h =
    ap (option_and_then (λ hours. option_and_then (minutes_of hours) (two_digits (tens (n % 60)) (ones (n % 60))))) (two_read (n / 60) (hours_are n h))
    ∙ (ap (option_and_then (minutes_of (n / 60))) (two_read (n % 60) (rest_is n))
    ∙ minutes_read n h)

pub offset_read : (offset : UtcOffset) → minutes_in offset ≤ most_minutes → offset_of (offset_text offset) ≡ Some offset
offset_read (UtcOffset.Ahead n) h = ap (option_and_then (signed_offset 43)) (text_read n h)
offset_read (UtcOffset.Behind n) h = ap (option_and_then (signed_offset 45)) (text_read n h)

both_digits : (a b n : ℕ) → two_digits a b ≡ Some n → (is_ascii_digit a && is_ascii_digit b) ≡ true
both_digits a b n e = (cond_some (is_ascii_digit a && is_ascii_digit b) ((a - 48) * 10 + (b - 48)) n e).0

digits_spell : (a b n : ℕ) → two_digits a b ≡ Some n → (a - 48) * 10 + (b - 48) ≡ n
digits_spell a b n e = (cond_some (is_ascii_digit a && is_ascii_digit b) ((a - 48) * 10 + (b - 48)) n e).1

first_in : (a b : ℕ) → (is_ascii_digit a && is_ascii_digit b) ≡ true → (48 ≤ a) × (a ≤ 57)
first_in a b h = grind (arith, nat_tests, h)

second_in : (a b : ℕ) → (is_ascii_digit a && is_ascii_digit b) ≡ true → (48 ≤ b) × (b ≤ 57)
second_in a b h = grind (arith, nat_tests, h)

tens_written : (a b n : ℕ) → two_digits a b ≡ Some n → a ≡ tens n
tens_written a b n e =
    let d = both_digits a b n e in
    let (least, most) = first_in a b d in
    let (low, high) = second_in a b d in
    let spelled = digits_spell a b n e in
    omega (arith, least, most, low, high, spelled)

ones_written : (a b n : ℕ) → two_digits a b ≡ Some n → b ≡ ones n
ones_written a b n e =
    let d = both_digits a b n e in
    let (least, most) = first_in a b d in
    let (low, high) = second_in a b d in
    let spelled = digits_spell a b n e in
    omega (arith, least, most, low, high, spelled)

minutes_within : (h m n : ℕ) → minutes_of h m ≡ Some n → (h ≡ n / 60) × ((m ≡ n % 60) × (n ≤ most_minutes))
minutes_within h m n e =
    let (few, is) = cond_some (nat_lt m 60 && nat_le (h * 60 + m) most_minutes) (h * 60 + m) n e in
    grind (arith, nat_tests, few, is)

-- the four digits are those of these minutes
abbrev AreDigits : ℕ → ℕ → ℕ → ℕ → ℕ → Type 0
AreDigits a b c d n = ((a ≡ tens (n / 60)) × (b ≡ ones (n / 60))) × (((c ≡ tens (n % 60)) × (d ≡ ones (n % 60))) × (n ≤ most_minutes))

put : (a b c d hours minutes n : ℕ) → two_digits a b ≡ Some hours → two_digits c d ≡ Some minutes → minutes_of hours minutes ≡ Some n → AreDigits a b c d n
put a b c d hours minutes n first second whole =
    let (h, (m, few)) = minutes_within hours minutes n whole in
    ((tens_written a b hours first ∙ ap tens h, ones_written a b hours first ∙ ap ones h), ((tens_written c d minutes second ∙ ap tens m, ones_written c d minutes second ∙ ap ones m), few))

digits_written : (a b c d n : ℕ) → minutes_written a b c d ≡ Some n → AreDigits a b c d n
digits_written a b c d n e =
    option_and_then_some (λ hours. option_and_then (minutes_of hours) (two_digits c d)) (two_digits a b) n e (λ hours first rest.
    option_and_then_some (minutes_of hours) (two_digits c d) n rest (λ minutes second whole.
    put a b c d hours minutes n first second whole))

-- the offset has these minutes, and its text begins with this sign
abbrev IsSigned : ℕ → ℕ → UtcOffset → Type 0
IsSigned sign n offset = (minutes_in offset ≡ n) × (offset_text offset ≡ text_of sign n)

signed_by : (plus minus : Bool) (sign n : ℕ) (offset : UtcOffset) → (plus ≡ true → sign ≡ 43) → (minus ≡ true → sign ≡ 45)
    → cond plus (Some (UtcOffset.Ahead n)) (cond minus (Some (UtcOffset.Behind n)) None) ≡ Some offset → IsSigned sign n offset
signed_by true minus sign n offset p q e =
    subst (IsSigned sign n) (cond_some true (UtcOffset.Ahead n) offset e).1 (refl, ap (λ s. text_of s n) (sym (p refl)))
signed_by false true sign n offset p q e =
    subst (IsSigned sign n) (cond_some true (UtcOffset.Behind n) offset e).1 (refl, ap (λ s. text_of s n) (sym (q refl)))
signed_by false false sign n offset p q e = absurd (false≢true (cond_some false (UtcOffset.Ahead n) offset e).0)

sign_is : (sign n : ℕ) (offset : UtcOffset) → signed_offset sign n ≡ Some offset → IsSigned sign n offset
sign_is sign n offset e = signed_by (sign == 43) (sign == 45) sign n offset (eqb-true sign 43) (eqb-true sign 45) e

-- the minutes are few, and the text is the offset's
abbrev IsText : List ℕ → UtcOffset → Type 0
IsText text offset = (minutes_in offset ≤ most_minutes) × (text ≡ offset_text offset)

six : (sign a b colon c d n : ℕ) → colon ≡ 58 → AreDigits a b c d n → (sign ∷ a ∷ b ∷ colon ∷ c ∷ d ∷ []) ≡ text_of sign n
six sign a b colon c d n e ((p, q), ((r, s), few)) = grind (arith, p, q, r, s, e)

whole : (sign a b colon c d n : ℕ) (offset : UtcOffset) → colon ≡ 58 → AreDigits a b c d n → IsSigned sign n offset
    → IsText (sign ∷ a ∷ b ∷ colon ∷ c ∷ d ∷ []) offset
whole sign a b colon c d n offset e digits (minutes, text) =
    (subst (λ m. m ≤ most_minutes) (sym minutes) digits.1.1, six sign a b colon c d n e digits ∙ sym text)

text_by : (is_colon : Bool) (sign a b colon c d : ℕ) (offset : UtcOffset) → (is_colon ≡ true → colon ≡ 58)
    → cond is_colon (option_and_then (signed_offset sign) (minutes_written a b c d)) None ≡ Some offset
    → IsText (sign ∷ a ∷ b ∷ colon ∷ c ∷ d ∷ []) offset
text_by true sign a b colon c d offset p e =
    option_and_then_some (signed_offset sign) (minutes_written a b c d) offset e (λ n offset_text rest.
    whole sign a b colon c d n offset (p refl) (digits_written a b c d n offset_text) (sign_is sign n offset rest))
text_by false sign a b colon c d offset p e = absurd (false≢true (cond_some false offset offset e).0)

none_is : (P : Type 0) (offset : UtcOffset) → None ≡ Some offset → P
none_is P offset e = absurd (false≢true (cond_some false offset offset e).0)

pub text_is : (text : List ℕ) (offset : UtcOffset) → offset_of text ≡ Some offset → IsText text offset
text_is [] offset e = none_is _ offset e
text_is (s ∷ []) offset e = none_is _ offset e
text_is (s ∷ a ∷ []) offset e = none_is _ offset e
text_is (s ∷ a ∷ b ∷ []) offset e = none_is _ offset e
text_is (s ∷ a ∷ b ∷ k ∷ []) offset e = none_is _ offset e
text_is (s ∷ a ∷ b ∷ k ∷ c ∷ []) offset e = none_is _ offset e
text_is (s ∷ a ∷ b ∷ k ∷ c ∷ d ∷ []) offset e = text_by (k == 58) s a b k c d offset (eqb-true k 58) e
text_is (s ∷ a ∷ b ∷ k ∷ c ∷ d ∷ more ∷ rest) offset e = none_is _ offset e
