-- An amount that is shown is read back, so that no two amounts are shown as one.
use Rattle.std.proofs.{Common.{◌≡◌, ℕ, zero, suc, ◌+◌, ◌*◌, ◌-◌, ◌/◌, ◌%◌, ◌^◌, ◌<◌, Bool, true, false, cond, ◌&&◌, List, [], ◌∷◌, ◌++◌, length, drop, replicate, refl, sym, ap, ◌∙◌, arith, rules, decimal, nat_lt, length-append, append_assoc}, lemmas.{Bool.{Decides.nat_tests, eqb-true}, List.length-replicate, Str.Parse.{IsNumeralModel, numerals_by_fold}, Fmt.{decimal_is_IsNumeral_wide, length-decimal-le}}}
use Rattle.std.specs.{Int.IsInRange, Prelude.{◌==◌, codes}}
use Rattle.gx_text.specs.Moments.{with_zeros}
use Rattle.gx_money.specs.{Amounts.{cents_text, comma, dollars_text, grouped}, Laws.AmountsAreToldApart}

-- digits, and the number that they spell behind those of n
abbrev AreDigits : List ℕ → Type 0
AreDigits [] = Unit {0}
AreDigits (c ∷ cs) = IsInRange 48 57 c × AreDigits cs

abbrev value_behind : ℕ → List ℕ → ℕ
value_behind n [] = n
value_behind n (c ∷ cs) = value_behind (n * 10 + (c - 48)) cs

numerals : IsNumeralModel AreDigits (value_behind 0)
numerals = numerals_by_fold AreDigits (search rules) value_behind (search rules)

record Spells (ds : List ℕ) (n : ℕ) : Type 0 where
  digits : AreDigits ds
  value : value_behind 0 ds ≡ n

spells_decimal : (n : ℕ) → n < 10 ^ 64 → Spells (decimal n) n
spells_decimal n h =
    let known = decimal_is_IsNumeral_wide n h in
    record { digits = numerals.from (decimal n) known.0.1; value = numerals.same (decimal n) known.0.1 ∙ known.1 }

-- zeros in front change no number
zeros_spell : (m : ℕ) (ds : List ℕ) → value_behind 0 (replicate m 48 ++ ds) ≡ value_behind 0 ds
zeros_spell zero ds = refl
zeros_spell (suc m) ds = zeros_spell m ds

length_with_zeros : (n k : ℕ) → 0 < n → k < 10 ^ n → k < 2 ^ 64 → length (with_zeros n k) ≡ n
length_with_zeros n k some below h =
    let short = length-decimal-le n k some below h in
    omega (arith, length-append (replicate (n - length (decimal k)) 48) (decimal k), length-replicate {A = ℕ} (n - length (decimal k)) 48)

-- the amount of so many dollars and of what stands behind the point
abbrev with_cents : ℕ → List ℕ → ℕ
with_cents dollars part = dollars * 10000 + value_behind 0 part * 10 ^ (4 - length part)

zeros_read : (dollars n k : ℕ) → 0 < n → k < 10 ^ n → k < 10000 → with_cents dollars (with_zeros n k) ≡ dollars * 10000 + k * 10 ^ (4 - n)
zeros_read dollars n k some below few =
    let value = zeros_spell (n - length (decimal k)) (decimal k) ∙ (spells_decimal k (omega (arith, few))).value in
    ap (λ m. dollars * 10000 + value_behind 0 (with_zeros n k) * 10 ^ (4 - m)) (length_with_zeros n k some below (omega (arith, few)))
    ∙ ap (λ v. dollars * 10000 + v * 10 ^ (4 - n)) value

cents_by : (dollars part : ℕ) (cents : Bool) → part < 10000 → (part % 100 == 0) ≡ cents
    → with_cents dollars (cond cents (with_zeros 2 (part / 100)) (with_zeros 4 part)) ≡ dollars * 10000 + part
cents_by dollars part true few is =
    let whole = eqb-true (part % 100) 0 is in
    zeros_read dollars 2 (part / 100) (omega arith) (omega arith) (omega arith) ∙ omega (arith, whole)
cents_by dollars part false few is = zeros_read dollars 4 part (omega arith) (omega arith) (omega arith) ∙ omega arith

-- the amount that is read behind the sign, where so many dollars were read
abbrev amount_behind : ℕ → List ℕ → ℕ
amount_behind dollars [] = 0
amount_behind dollars (c ∷ cs) =
    cond (c == 46) (with_cents dollars cs) (cond (c == 44) (amount_behind dollars cs) (amount_behind (dollars * 10 + (c - 48)) cs))

no_point : (c : ℕ) → IsInRange 48 57 c → (c == 46) ≡ false
no_point c h = grind (arith, nat_tests, h)

no_comma : (c : ℕ) → IsInRange 48 57 c → (c == 44) ≡ false
no_comma c h = grind (arith, nat_tests, h)

digit_read : (dollars c : ℕ) (cs : List ℕ) → IsInRange 48 57 c → amount_behind dollars (c ∷ cs) ≡ amount_behind (dollars * 10 + (c - 48)) cs
digit_read dollars c cs h =
    ap (λ b. cond b (with_cents dollars cs) (cond (c == 44) (amount_behind dollars cs) (amount_behind (dollars * 10 + (c - 48)) cs))) (no_point c h)
    ∙ ap (λ b. cond b (amount_behind dollars cs) (amount_behind (dollars * 10 + (c - 48)) cs)) (no_comma c h)

comma_passed : (dollars behind : ℕ) (cs : List ℕ) → amount_behind dollars (comma behind ++ cs) ≡ amount_behind dollars cs
comma_passed dollars behind cs = by_kind (nat_lt 0 behind && behind % 3 == 0)
  where
    by_kind : (due : Bool) → amount_behind dollars (cond due (codes ",") [] ++ cs) ≡ amount_behind dollars cs
    by_kind true = refl
    by_kind false = refl

grouped_read : (dollars : ℕ) (ds part : List ℕ) → AreDigits ds → amount_behind dollars (grouped ds ++ 46 ∷ part) ≡ with_cents (value_behind dollars ds) part
grouped_read dollars [] part digits = refl
grouped_read dollars (c ∷ cs) part digits =
    let more : ℕ = dollars * 10 + (c - 48) in
    digit_read dollars c ((comma (length cs) ++ grouped cs) ++ 46 ∷ part) digits.0
    ∙ ap (amount_behind more) (append_assoc (comma (length cs)) (grouped cs) (46 ∷ part))
    ∙ comma_passed more (length cs) (grouped cs ++ 46 ∷ part)
    ∙ grouped_read more cs part digits.1

read_back : (amount : ℕ) → amount < 2 ^ 128 → amount_behind 0 (drop 1 (dollars_text amount)) ≡ amount
unfolding dollars_text
read_back amount h =
    let dollars : ℕ = amount / 10000 in
    let part : List ℕ = cents_text (amount % 10000) in
    let spells = spells_decimal (amount / 10000) (omega (arith, h)) in
    ap (amount_behind 0) (append_assoc (grouped (decimal dollars)) (46 ∷ []) part)
    ∙ grouped_read 0 (decimal dollars) part spells.digits
    ∙ ap (λ whole. with_cents whole part) spells.value
    ∙ cents_by dollars (amount % 10000) _ (omega arith) refl
    ∙ omega arith

pub amounts_are_told_apart : AmountsAreToldApart
amounts_are_told_apart one other h g same =
    sym (read_back one h) ∙ ap (λ text. amount_behind 0 (drop 1 text)) same ∙ read_back other g
