-- A price that is typed as it is shown is the same price.
use Rattle.std.proofs.{Common.{◌≡◌, ℕ, zero, suc, ◌+◌, ◌*◌, ◌-◌, ◌/◌, ◌%◌, ◌^◌, ◌<◌, ◌≤◌, Bool, true, false, not, cond, ◌&&◌, List, [], ◌∷◌, ◌++◌, length, drop, replicate, Some, None, refl, ap, ◌∙◌, arith, rules, decimal, nat_le, nat_lt, length-append, append_assoc}, lemmas.{Bool.{Decides.nat_tests, eqb-true, lt-ltb, le-leb}, List.length-replicate, Fmt.{digits_value-decimal, decimal_is_IsNumeral, decimal_nonempty, length-decimal-le}}, Math.Seq.{take-append_seam, drop-append-add}}
use Rattle.std.specs.{Int.IsInRange, Prelude.{◌==◌, position, option_map}, List.{list_all, position_or_len}, Char.is_ascii_digit}
use Rattle.gx_soup.specs.Login.{spelled_number}
use Rattle.gx_script_text.specs.Words.{is_empty, number_of_bits}
use Rattle.gx_lines.specs.Showing.{price_decimals_text, price_text}
use Rattle.gx_text.specs.Moments.{with_zeros}
use Rattle.gx_terminal.specs.{Prices.{is_point, in_32_bits, decimals_of, pointed_price, price_at, price_of}, PriceLaws.PricesAreReadBack}
use Rattle.gx_soup.proofs.Number_read.{AreDigits, digits_are, numerals}

-- what is known of the digits of a number
record Spells (ds : List ℕ) (n : ℕ) : Type 0 where
  digits : AreDigits ds
  value : spelled_number ds ≡ n
  some : 0 < length ds

spells_decimal : (n : ℕ) → n < 2 ^ 64 → Spells (decimal n) n
spells_decimal n h = record {
  digits = numerals.from (decimal n) (decimal_is_IsNumeral n h).0.1;
  value = digits_value-decimal numerals n h;
  some = decimal_nonempty n h;
}

not_empty : (ds : List ℕ) → 0 < length ds → is_empty ds ≡ false
not_empty ds h = grind (arith, nat_tests)

-- such digits are read as their number
read_by : (empty digits small : Bool) (n : ℕ) → empty ≡ false → digits ≡ true → small ≡ true
    → cond ((not empty && digits) && small) (Some n) None ≡ Some n
read_by empty digits small n e d s = rw (e, d, s) refl

read : (ds : List ℕ) (n : ℕ) → Spells ds n → n < 2 ^ 32 → number_of_bits 32 ds ≡ Some n
read ds n k h =
    read_by (is_empty ds) (list_all is_ascii_digit ds) (nat_lt (spelled_number ds) (2 ^ 32)) (spelled_number ds) (not_empty ds k.some) (digits_are ds k.digits)
    (rw k.value (lt-ltb n (2 ^ 32) h))
    ∙ ap Some k.value

-- zeros in front change no number
zeros_are_digits : (m : ℕ) (ds : List ℕ) → AreDigits ds → AreDigits (replicate m 48 ++ ds)
zeros_are_digits zero ds d = d
zeros_are_digits (suc m) ds d = (search rules, zeros_are_digits m ds d)

zeros_spell : (m : ℕ) (ds : List ℕ) → spelled_number (replicate m 48 ++ ds) ≡ spelled_number ds
zeros_spell zero ds = refl
zeros_spell (suc m) ds = zeros_spell m ds

spells_with_zeros : (n k : ℕ) → k < 2 ^ 64 → Spells (with_zeros n k) k
spells_with_zeros n k h =
    let d = spells_decimal k h in
    record {
      digits = zeros_are_digits (n - length (decimal k)) (decimal k) d.digits;
      value = zeros_spell (n - length (decimal k)) (decimal k) ∙ d.value;
      some = let s = d.some in omega (arith, length-append (replicate (n - length (decimal k)) 48) (decimal k));
    }

length_with_zeros : (n k : ℕ) → 0 < n → k < 10 ^ n → k < 2 ^ 64 → length (with_zeros n k) ≡ n
length_with_zeros n k some below h =
    let short = length-decimal-le n k some below h in
    omega (arith, length-append (replicate (n - length (decimal k)) 48) (decimal k), length-replicate {A = ℕ} (n - length (decimal k)) 48)

decimals_by : (ds : List ℕ) (n k : ℕ) → length ds ≡ n → nat_le n 4 ≡ true → number_of_bits 32 ds ≡ Some k → decimals_of ds ≡ Some (k * 10 ^ (4 - n))
decimals_by ds n k len few r =
    ap (λ m. cond (nat_le m 4) (option_map (λ number. number * 10 ^ (4 - m)) (number_of_bits 32 ds)) None) len
    ∙ (ap (λ b. cond b (option_map (λ number. number * 10 ^ (4 - n)) (number_of_bits 32 ds)) None) few
    ∙ ap (option_map (λ number. number * 10 ^ (4 - n))) r)

-- so many digits behind the point
decimals_are : (n k : ℕ) → 0 < n → n ≤ 4 → k < 10 ^ n → k < 2 ^ 32 → decimals_of (with_zeros n k) ≡ Some (k * 10 ^ (4 - n))
decimals_are n k some few below h =
    let wide : k < 2 ^ 64 = omega (arith, h) in
    decimals_by (with_zeros n k) n k (length_with_zeros n k some below wide) (le-leb n 4 few) (read (with_zeros n k) k (spells_with_zeros n k wide) h)

part_by : (f : ℕ) (two three : Bool) → f < 10000 → (f % 100 == 0) ≡ two → (f % 10 == 0) ≡ three
    → decimals_of (cond two (with_zeros 2 (f / 100)) (cond three (with_zeros 3 (f / 10)) (with_zeros 4 f))) ≡ Some f
part_by f true three h a b =
    let e = eqb-true (f % 100) 0 a in
    decimals_are 2 (f / 100) (omega arith) (omega arith) (omega arith) (omega arith) ∙ ap Some (omega arith)
part_by f false true h a b =
    let e = eqb-true (f % 10) 0 b in
    decimals_are 3 (f / 10) (omega arith) (omega arith) (omega arith) (omega arith) ∙ ap Some (omega arith)
part_by f false false h a b =
    decimals_are 4 f (omega arith) (omega arith) (omega arith) (omega arith) ∙ ap Some (omega arith)

-- no digit is a point
no_point : (c : ℕ) → IsInRange 48 57 c → is_point c ≡ false
no_point c h = grind (arith, nat_tests, h)

point_behind : (ds t : List ℕ) → AreDigits ds → position_or_len is_point (ds ++ 46 ∷ t) ≡ length ds
point_behind [] t d = refl
point_behind (c ∷ cs) t d =
    ap (λ b. cond (not b) (1 + position_or_len is_point (cs ++ 46 ∷ t)) 0) (no_point c d.0) ∙ (ap (λ n. 1 + n) (point_behind cs t d.1) ∙ omega arith)

point_found : (ds t : List ℕ) → AreDigits ds → position is_point (ds ++ 46 ∷ t) ≡ Some (length ds)
point_found ds t d =
    ap (λ n. cond (nat_lt n (length (ds ++ 46 ∷ t))) (Some n) None) (point_behind ds t d)
    ∙ ap (λ b. cond b (Some (length ds)) None) (lt-ltb (length ds) (length (ds ++ 46 ∷ t)) (omega (arith, length-append ds (46 ∷ t))))

small_enough : (n p : ℕ) → n ≡ p → p < 2 ^ 32 → in_32_bits n ≡ Some p
small_enough n p e h = rw (e, lt-ltb p (2 ^ 32) h) refl

-- dollars, a point, and what stands behind it
pointed : (ds t : List ℕ) (d f p : ℕ) → Spells ds d → d < 2 ^ 32 → decimals_of t ≡ Some f → d * 10000 + f ≡ p → p < 2 ^ 32
    → price_of ((ds ++ 46 ∷ []) ++ t) ≡ Some p
unfolding price_of
pointed ds t d f p k h part sum small =
    ap (λ word. price_at word (position is_point word)) (append_assoc ds (46 ∷ []) t)
    ∙ (ap (price_at (ds ++ 46 ∷ t)) (point_found ds t k.digits)
    ∙ (ap (λ dollars. pointed_price dollars (drop (length ds + 1) (ds ++ 46 ∷ t))) (take-append_seam ds (46 ∷ t))
    ∙ (ap (pointed_price ds) (drop-append-add ds (46 ∷ t) 1)
    ∙ rw (read ds d k h, part) (small_enough (d * 10000 + f) p sum small))))

pub prices_are_read_back : PricesAreReadBack
unfolding price_text
prices_are_read_back p h =
    pointed (decimal (p / 10000)) (price_decimals_text (p % 10000)) (p / 10000) (p % 10000) p (spells_decimal (p / 10000) (omega (arith, h))) (omega (arith, h))
    (part_by (p % 10000) _ _ (omega arith) refl refl) (omega arith) h
