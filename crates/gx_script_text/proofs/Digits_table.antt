-- The digits of each byte, as the table has them.
use Rattle.std.proofs.{Common.{◌≡◌, ℕ, zero, suc, ◌+◌, ◌*◌, ◌/◌, ◌%◌, ◌<◌, Bool, true, false, ◌&&◌, ◌==◌, refl, ap, ◌∙◌, arith, slice_index, eqb-true}, lemmas.Bool.{eqb-false, and_parts}}
use Rattle.hex.specs.Hex.{lower_digits}
use Rattle.gx_script_text.specs.declared.digits.TheConstants.{PAIRS}

-- the table has the digits of the byte
is_told : ℕ → Bool
is_told byte = (slice_index PAIRS.now (2 * byte) == slice_index lower_digits (byte / 16)) && (slice_index PAIRS.now (2 * byte + 1) == slice_index lower_digits (byte % 16))

-- those of all bytes below this one
are_told : ℕ → Bool
are_told zero = true
are_told (suc n) = is_told n && are_told n

all_told : are_told 256 ≡ true
unfolding is_told are_told
all_told = refl

told : (n byte : ℕ) → are_told n ≡ true → byte < n → is_told byte ≡ true
unfolding are_told
told zero byte all below = let never : ⊥ = omega (arith, below) in elim never [ ]
told (suc n) byte all below = by (byte == n) refl (and_parts (is_told n) (are_told n) all) (told n byte)
  where
    by : (b : Bool) → (byte == n) ≡ b → (is_told n ≡ true) × (are_told n ≡ true) → (are_told n ≡ true → byte < n → is_told byte ≡ true) → is_told byte ≡ true
    by true is parts later = ap is_told (eqb-true byte n is) ∙ parts.0
    by false is parts later = later parts.1 (omega (arith, below, eqb-false byte n is))

digits_of : (byte : ℕ) → byte < 256 → ((slice_index PAIRS.now (2 * byte) == slice_index lower_digits (byte / 16)) ≡ true) × ((slice_index PAIRS.now (2 * byte + 1) == slice_index lower_digits (byte % 16)) ≡ true)
unfolding is_told
digits_of byte below = and_parts _ _ (told 256 byte all_told below)

pub high_digit : (byte : ℕ) → byte < 256 → slice_index PAIRS.now (2 * byte) ≡ slice_index lower_digits (byte / 16)
high_digit byte below = eqb-true _ _ (digits_of byte below).0

pub low_digit : (byte : ℕ) → byte < 256 → slice_index PAIRS.now (2 * byte + 1) ≡ slice_index lower_digits (byte % 16)
low_digit byte below = eqb-true _ _ (digits_of byte below).1
