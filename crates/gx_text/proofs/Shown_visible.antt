-- Only characters that are seen are shown.
use Rattle.std.proofs.{Common.{◌≡◌, ℕ, ◌/◌, ◌%◌, ◌<◌, Bool, true, false, not, cond, List, [], ◌∷◌, ◌++◌, codes, refl, ◌∙◌, ap, arith}, lemmas.{Bool.{Decides.nat_tests, and_parts}, List.Folds.list_all-append}}
use Rattle.std.specs.{Prelude.{◌==◌, ◌&&◌, ◌||◌, nat_lt, flat_map}, List.list_all}
use Rattle.gx_units.specs.Spelling.{is_visible}
use Rattle.gx_text.specs.{Laws.{JsonIsPrinted, ShownIsVisible, are_bytes}, Shown.{hex_digit, hex_pair, is_printed, json_byte, shown_byte}}

hex_visible : (digit : ℕ) → digit < 16 → is_visible (hex_digit digit) ≡ true
hex_visible digit small = grind (arith, nat_tests)

pair_visible : (byte : ℕ) → byte < 256 → list_all is_visible (hex_pair byte) ≡ true
pair_visible byte small =
    let high : is_visible (hex_digit (byte / 16)) ≡ true = hex_visible (byte / 16) (omega arith) in
    let low : is_visible (hex_digit (byte % 16)) ≡ true = hex_visible (byte % 16) (omega arith) in
    ap (λ b. b && (is_visible (hex_digit (byte % 16)) && true)) high ∙ ap (λ b. b && true) low

byte_visible : (byte : ℕ) → byte < 256 → list_all is_visible (shown_byte byte) ≡ true
byte_visible byte small = by_kind (is_visible byte) (byte == 92) refl
  where
    by_kind : (visible escape : Bool) → is_visible byte ≡ visible
        → list_all is_visible (cond (visible && not escape) (byte ∷ []) (codes "\\x" ++ hex_pair byte)) ≡ true
    by_kind true false is = ap (λ b. b && true) is
    by_kind true true is = pair_visible byte small
    by_kind false escape is = pair_visible byte small

pub visible_printed : (byte : ℕ) → is_visible byte ≡ true → is_printed byte ≡ true
visible_printed byte seen = ap (λ b. b || byte == 32) seen

pair_printed : (byte : ℕ) → byte < 256 → list_all is_printed (hex_pair byte) ≡ true
pair_printed byte small =
    let high : is_printed (hex_digit (byte / 16)) ≡ true = visible_printed (hex_digit (byte / 16)) (hex_visible (byte / 16) (omega arith)) in
    let low : is_printed (hex_digit (byte % 16)) ≡ true = visible_printed (hex_digit (byte % 16)) (hex_visible (byte % 16) (omega arith)) in
    ap (λ b. b && (is_printed (hex_digit (byte % 16)) && true)) high ∙ ap (λ b. b && true) low

special_printed : (byte : ℕ) → (byte == 34 || byte == 92) ≡ true → is_printed byte ≡ true
special_printed byte special = grind (arith, nat_tests)

json_printed : (byte : ℕ) → byte < 256 → list_all is_printed (json_byte byte) ≡ true
json_printed byte small = by_kind (byte == 34 || byte == 92) (is_printed byte) refl refl
  where
    by_kind : (special printed : Bool) → (byte == 34 || byte == 92) ≡ special → is_printed byte ≡ printed
        → list_all is_printed (cond special (92 ∷ byte ∷ []) (cond printed (byte ∷ []) (codes "\\u00" ++ hex_pair byte))) ≡ true
    by_kind true printed special is = ap (λ b. b && true) (special_printed byte special)
    by_kind false true special is = ap (λ b. b && true) is
    by_kind false false special is = pair_printed byte small

all_seen : (seen : ℕ → Bool) (shows : ℕ → List ℕ) → ((byte : ℕ) → byte < 256 → list_all seen (shows byte) ≡ true)
    → (bytes : List ℕ) → are_bytes bytes ≡ true → list_all seen (flat_map shows bytes) ≡ true
all_seen seen shows each [] all = refl
all_seen seen shows each (byte ∷ bytes) all =
    let one : nat_lt byte 256 ≡ true = (and_parts (nat_lt byte 256) (are_bytes bytes) all).0 in
    let small : byte < 256 = grind (arith, nat_tests) in
    list_all-append seen (shows byte) (flat_map shows bytes)
    ∙ ap (λ b. b && list_all seen (flat_map shows bytes)) (each byte small)
    ∙ all_seen seen shows each bytes (and_parts (nat_lt byte 256) (are_bytes bytes) all).1

pub shown_is_visible : ShownIsVisible
shown_is_visible bytes all = all_seen is_visible shown_byte byte_visible bytes all

pub json_is_printed : JsonIsPrinted
json_is_printed bytes all =
    list_all-append is_printed (flat_map json_byte bytes) (34 ∷ [])
    ∙ ap (λ b. b && true) (all_seen is_printed json_byte json_printed bytes all)
