-- How prices are shown, and the fields of a JSON line.
use Rattle.std.specs.Prelude.{ℕ, ◌/◌, ◌%◌, ◌==◌, if◌then◌else◌, List, ◌++◌, codes, decimal}
use Rattle.gx_units.specs.Spelling.{without_right_spaces}
use Rattle.gx_text.specs.{Moments.{with_zeros, moment_text}, Shown.json_string, declared.moments.Decimals.TheVariants.Nine}
use Rattle.gx_script_text.specs.Printing.{line_end}

-- the part of a price behind its dollars, in two to four decimals
abbrev pub price_decimals_text : ℕ → List ℕ
price_decimals_text part =
    if part % 100 == 0 then with_zeros 2 (part / 100)
    else (if part % 10 == 0 then with_zeros 3 (part / 10) else with_zeros 4 part)

-- a price in ten-thousandths of a dollar, in dollars
unfoldable pub price_text : ℕ → List ℕ
price_text price = decimal (price / 10000) ++ codes "." ++ price_decimals_text (price % 10000)

-- how a field of a JSON line begins
unfoldable pub key_text : List ℕ → List ℕ
key_text key = codes ",\"" ++ key ++ codes "\":"

-- a field of a JSON line whose value is this text
unfoldable pub text_field : List ℕ → List ℕ → List ℕ
text_field key text = key_text key ++ json_string text

-- a field of a JSON line whose value is a name, without the spaces that fill it up
abbrev pub name_field : List ℕ → List ℕ → List ℕ
name_field key name = text_field key (without_right_spaces name)

-- a field of a JSON line whose value is this number
unfoldable pub json_number_field : List ℕ → List ℕ → List ℕ
json_number_field key number = key_text key ++ number

-- how a JSON line begins: when, and what
unfoldable pub json_front : ℕ → List ℕ → List ℕ
json_front moment event = codes "{\"at\":\"" ++ moment_text Nine moment ++ codes "\"" ++ text_field (codes "event") event

-- a JSON line: when, what, and more of it
unfoldable pub json_line : ℕ → List ℕ → List ℕ → List ℕ
json_line moment event fields = json_front moment event ++ fields ++ codes "}" ++ line_end
