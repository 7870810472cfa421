-- The user and the password that the fields of a request name.
use Rattle.std.specs.Prelude.{ℕ, ◌+◌, ◌==◌, ◌&&◌, Bool, List, length, take, drop, find, position, Option, Some, None, option_map, option_and_then, if◌then◌else◌, nat_le, nat_lt, codes}
use Rattle.gx_units.specs.{Spelling.padded_to}
use Rattle.http1.specs.{Fields.{Header, is_named}, Text.eq_ignore_case}
use Rattle.base64.specs.{Engines.standard, GeneralPurpose.decoded_of}
use Rattle.gx_http.specs.declared.credentials.Credentials.{Credentials}

-- the value of the first field of this name
abbrev pub value_named : List ℕ → List Header → Option (List ℕ)
value_named name fields = option_map (λ (h : Header). h.1) (find (is_named name) fields)

-- the text with spaces behind it, where it has so many bytes at the most
abbrev pub padded_in : ℕ → List ℕ → Option (List ℕ)
padded_in n text = if nat_le (length text) n then Some (padded_to n text) else None

abbrev pub is_colon : ℕ → Bool
is_colon byte = byte == 58

-- the user and the password of these names, if both are no longer than names are
abbrev pub named_so : Option (List ℕ) → Option (List ℕ) → Option Credentials
named_so user password =
    option_and_then (λ (u : List ℕ). option_map {U = Credentials} (λ (p : List ℕ). record { user = record { bytes = u }; password = record { bytes = p } }) password) user

-- the user in front of this place, and the password behind it
abbrev pub on_both_sides : List ℕ → ℕ → Option Credentials
on_both_sides text place = named_so (padded_in 6 (take place text)) (padded_in 10 (drop (place + 1) text))

-- the user and the password on the two sides of the first colon
abbrev pub user_and_password : List ℕ → Option Credentials
user_and_password text = option_and_then (on_both_sides text) (position is_colon text)

-- what stands behind the word Basic, as long as a user and a password are at the most
abbrev pub basic_text_in : List ℕ → Option (List ℕ)
basic_text_in value =
    if nat_lt (length value) 6 then None
    else if eq_ignore_case (take 6 value) (codes "Basic ") && nat_le (length (drop 6 value)) 24 then Some (drop 6 value)
    else None

-- the user and the password that the fields name: Basic, and behind it USER:PASSWORD in base64
abbrev pub credentials_in : List Header → Option Credentials
credentials_in fields =
    option_and_then user_and_password (option_and_then (decoded_of standard) (option_and_then basic_text_in (value_named (codes "Authorization") fields)))
