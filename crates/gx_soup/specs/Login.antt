-- How a Login Request spells the number that it asks for.
use Rattle.std.specs.{Prelude.{ℕ, ◌+◌, ◌-◌, ◌*◌, ◌^◌, min, nat_lt, if◌then◌else◌, List, Option, Some, None, fold}, List.list_all, Char.is_ascii_digit}
use Rattle.gx_units.specs.Spelling.{trimmed_text}

-- the greatest number of 64 bits
abbrev pub greatest : ℕ
greatest = 2 ^ 64 - 1

-- one digit more
abbrev pub with_digit : ℕ → ℕ → ℕ
with_digit number digit = 10 * number + (digit - 48)

-- the number that digits spell
abbrev pub spelled_number : List ℕ → ℕ
spelled_number digits = fold with_digit 0 digits

-- the number, where 64 bits hold it
abbrev pub in_64_bits : ℕ → Option ℕ
in_64_bits number = if nat_lt number (2 ^ 64) then Some number else None

-- digits with spaces around them; none at all is 0, and a number past 64 bits counts as the greatest of 64 bits
abbrev pub number_of : List ℕ → Option ℕ
number_of field = if list_all is_ascii_digit (trimmed_text field) then Some (min (spelled_number (trimmed_text field)) greatest) else None
