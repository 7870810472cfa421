-- Bytes that a peer chose, shown in a text and in JSON.
use Rattle.gx_units.specs.Spelling.{is_visible, without_right_spaces}
use Rattle.std.specs.Prelude.{ℕ, ◌+◌, ◌/◌, ◌%◌, Bool, not, ◌&&◌, ◌||◌, ◌==◌, nat_lt, if◌then◌else◌, List, [], ◌∷◌, ◌++◌, codes, flat_map}

-- a character that is seen, or a space
abbrev pub is_printed : ℕ → Bool
is_printed byte = is_visible byte || byte == 32

-- 0 to 9, a to f
abbrev pub hex_digit : ℕ → ℕ
hex_digit digit = if nat_lt digit 10 then 48 + digit else 87 + digit

abbrev pub hex_pair : ℕ → List ℕ
hex_pair byte = hex_digit (byte / 16) ∷ hex_digit (byte % 16) ∷ []

-- a visible byte as it is, all others and `\` as \xNN
abbrev pub shown_byte : ℕ → List ℕ
shown_byte byte = if is_visible byte && not (byte == 92) then byte ∷ [] else codes "\\x" ++ hex_pair byte

abbrev pub shown_text : List ℕ → List ℕ
shown_text bytes = flat_map shown_byte bytes

-- `"` and `\` behind a `\`, any other visible byte and a space as they are, all others as \u00NN
abbrev pub json_byte : ℕ → List ℕ
json_byte byte =
    if byte == 34 || byte == 92 then 92 ∷ byte ∷ [] else (if is_printed byte then byte ∷ [] else codes "\\u00" ++ hex_pair byte)

abbrev pub json_string : List ℕ → List ℕ
json_string bytes = codes "\"" ++ flat_map json_byte bytes ++ codes "\""

-- a name, without the spaces that fill it up
abbrev pub shown_name : List ℕ → List ℕ
shown_name name = shown_text (without_right_spaces name)

abbrev pub json_name : List ℕ → List ℕ
json_name name = json_string (without_right_spaces name)
