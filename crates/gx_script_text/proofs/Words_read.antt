-- Words that are cut and read at once.
use Rattle.std.proofs.{Common.{◌≡◌, ◌≢◌, ◌&&◌, Some, length, take, slice_index_or, ap, ℕ, ◌^◌, ◌<◌, ◌≤◌, Bool, true, false, not, List, [], ◌∷◌, refl, arith, eqb}, lemmas.Bool.{and_parts, and_from, leb-true, eqb-true}, Math.Nat.pow-le-pow_right}
use Rattle.std.specs.{List.list_all, Char.is_ascii_digit}
use Rattle.gx_units.specs.Spelling.{is_visible}
use Rattle.gx_script_text.specs.Words.{byte_of, has_no_space}

apart : (n low : ℕ) → n < low → (m : ℕ) → low ≤ m → not (eqb m n) ≡ true
apart n low below m within = at (eqb m n) refl
  where
    at : (same : Bool) → eqb m n ≡ same → not same ≡ true
    at true is = let e : m ≡ n = eqb-true m n is in absurd (omega (arith, e, below, within))
    at false is = refl

-- what passes a test of bytes from some byte past the space on is no space
clear_by : (test : ℕ → Bool) (low : ℕ) → 32 < low → ((byte : ℕ) → test byte ≡ true → low ≤ byte) → (text : List ℕ) → list_all test text ≡ true → has_no_space text ≡ true
clear_by test low past within [] all = refl
clear_by test low past within (byte ∷ bytes) all =
    let parts = and_parts (test byte) (list_all test bytes) all in
    and_from _ _ (apart 32 low past byte (within byte parts.0)) (clear_by test low past within bytes parts.1)

-- digits are no spaces
pub digits_clear : (text : List ℕ) → list_all is_ascii_digit text ≡ true → has_no_space text ≡ true
digits_clear = clear_by is_ascii_digit 48 (omega arith) (λ byte h. leb-true 48 byte (and_parts _ _ h).0)

-- nor are visible bytes
pub visible_clear : (text : List ℕ) → list_all is_visible text ≡ true → has_no_space text ≡ true
visible_clear = clear_by is_visible 33 (omega arith) (λ byte h. leb-true 33 byte (and_parts _ _ h).0)

-- a number of fewer than 19 digits is below 10 ^ 18
pub few_digits : (digits number : ℕ) → number < 10 ^ digits → digits < 19 → number < 10 ^ 18
few_digits digits number below few =
    let within : digits ≤ 18 = omega (arith, few) in
    let most : 10 ^ digits ≤ 10 ^ 18 = pow-le-pow_right (omega arith) within in
    omega (arith, below, most)

-- a first byte that is no space
pub first_clear : (text : List ℕ) → 1 ≤ length text → slice_index_or text 0 0 ≢ 32 → has_no_space (take 1 text) ≡ true
first_clear [] some clear = absurd (omega (arith, some))
first_clear (byte ∷ bytes) some clear = at (eqb byte 32) refl
  where
    at : (space : Bool) → eqb byte 32 ≡ space → (not (eqb byte 32) && true) ≡ true
    at true is = absurd (clear (eqb-true byte 32 is))
    at false is = ap (λ space. not space && true) is

-- a first byte, taken as a word
pub first_byte : (text : List ℕ) → 1 ≤ length text → byte_of (take 1 text) ≡ Some (slice_index_or text 0 0)
first_byte [] some = absurd (omega (arith, some))
first_byte (byte ∷ bytes) some = refl
