-- A JSON string ends at its own last quote.
use Rattle.std.proofs.{Common.{◌≡◌, ℕ, ◌/◌, ◌%◌, Bool, true, false, cond, List, [], ◌∷◌, ◌++◌, codes, refl, ◌∙◌, ap, arith, append_assoc}, lemmas.Bool.Decides.nat_tests}
use Rattle.std.specs.Prelude.{◌==◌, ◌||◌, Some, flat_map}
use Rattle.gx_text.specs.{Laws.{StringsEnd, behind_string}, Shown.{hex_digit, hex_pair, is_printed, json_byte}}

-- a byte that is neither a quote nor a `\` is passed
plain : (byte : ℕ) (rest : List ℕ) → (byte == 34) ≡ false → (byte == 92) ≡ false → behind_string false (byte ∷ rest) ≡ behind_string false rest
plain byte rest no_quote no_escape =
    ap (λ b. cond b (Some rest) (behind_string (byte == 92) rest)) no_quote ∙ ap (λ b. behind_string b rest) no_escape

no_quote : (digit : ℕ) → (hex_digit digit == 34) ≡ false
no_quote digit = grind (arith, nat_tests)

no_escape : (digit : ℕ) → (hex_digit digit == 92) ≡ false
no_escape digit = grind (arith, nat_tests)

pair_passed : (byte : ℕ) (rest : List ℕ) → behind_string false (hex_pair byte ++ rest) ≡ behind_string false rest
pair_passed byte rest =
    plain (hex_digit (byte / 16)) (hex_digit (byte % 16) ∷ rest) (no_quote (byte / 16)) (no_escape (byte / 16))
    ∙ plain (hex_digit (byte % 16)) rest (no_quote (byte % 16)) (no_escape (byte % 16))

either_quote : (byte : ℕ) → (byte == 34 || byte == 92) ≡ false → (byte == 34) ≡ false
either_quote byte none = grind (arith, nat_tests)

either_escape : (byte : ℕ) → (byte == 34 || byte == 92) ≡ false → (byte == 92) ≡ false
either_escape byte none = grind (arith, nat_tests)

byte_passed : (byte : ℕ) (rest : List ℕ) → behind_string false (json_byte byte ++ rest) ≡ behind_string false rest
byte_passed byte rest = by_kind (byte == 34 || byte == 92) (is_printed byte) refl
  where
    by_kind : (special printed : Bool) → (byte == 34 || byte == 92) ≡ special
        → behind_string false (cond special (92 ∷ byte ∷ []) (cond printed (byte ∷ []) (codes "\\u00" ++ hex_pair byte)) ++ rest) ≡ behind_string false rest
    by_kind true printed is = refl
    by_kind false true is = plain byte rest (either_quote byte is) (either_escape byte is)
    by_kind false false is = pair_passed byte rest

all_passed : (bytes rest : List ℕ) → behind_string false (flat_map json_byte bytes ++ 34 ∷ rest) ≡ Some rest
all_passed [] rest = refl
all_passed (byte ∷ bytes) rest =
    ap (behind_string false) (append_assoc (json_byte byte) (flat_map json_byte bytes) (34 ∷ rest))
    ∙ byte_passed byte (flat_map json_byte bytes ++ 34 ∷ rest)
    ∙ all_passed bytes rest

pub strings_end : StringsEnd
strings_end bytes rest = ap (behind_string false) (append_assoc (flat_map json_byte bytes) (34 ∷ []) rest) ∙ all_passed bytes rest
