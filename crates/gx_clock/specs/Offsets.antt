-- How far local time is from UTC, and how that is written.
use Rattle.std.specs.{Prelude.{ℕ, ◌+◌, ◌-◌, ◌*◌, ◌/◌, ◌%◌, ◌==◌, ◌&&◌, nat_lt, nat_le, if◌then◌else◌, List, [], ◌∷◌, Option, Some, None}, Option.option_and_then, Char.is_ascii_digit}
use Rattle.gx_clock.specs.declared.offset.UtcOffset.{UtcOffset}

-- the most minutes that an offset has, ahead or behind: 14 hours
abbrev pub most_minutes : ℕ
most_minutes = 840

-- the number that two decimal digits spell
abbrev pub two_digits : ℕ → ℕ → Option ℕ
two_digits tens ones =
    if is_ascii_digit tens && is_ascii_digit ones then Some ((tens - 48) * 10 + (ones - 48)) else None

-- the minutes of so many hours and minutes: fewer than 60 minutes, and 14 hours at most
abbrev pub minutes_of : ℕ → ℕ → Option ℕ
minutes_of hours minutes =
    if nat_lt minutes 60 && nat_le (hours * 60 + minutes) most_minutes then Some (hours * 60 + minutes) else None

-- `+` is ahead of UTC, `-` is behind
abbrev pub signed_offset : ℕ → ℕ → Option UtcOffset
signed_offset sign minutes =
    if sign == 43 then Some (UtcOffset.Ahead minutes)
    else if sign == 45 then Some (UtcOffset.Behind minutes)
    else None

-- the minutes of four digits: two for the hours, and two for the minutes
abbrev pub minutes_written : ℕ → ℕ → ℕ → ℕ → Option ℕ
minutes_written a b c d =
    option_and_then (λ hours. option_and_then (minutes_of hours) (two_digits c d)) (two_digits a b)

-- the offset that a text writes: +HH:MM or -HH:MM
abbrev pub offset_of : List ℕ → Option UtcOffset
offset_of (sign ∷ a ∷ b ∷ colon ∷ c ∷ d ∷ []) =
    if colon == 58 then option_and_then (signed_offset sign) (minutes_written a b c d) else None
offset_of other = None

-- the minutes of an offset, ahead or behind
abbrev pub minutes_in : UtcOffset → ℕ
minutes_in (UtcOffset.Ahead minutes) = minutes
minutes_in (UtcOffset.Behind minutes) = minutes

-- the two decimal digits of a number below 100
abbrev pub tens : ℕ → ℕ
tens n = 48 + n / 10

abbrev pub ones : ℕ → ℕ
ones n = 48 + n % 10

-- a sign, two digits for the hours, a colon, and two digits for the minutes
abbrev pub text_of : ℕ → ℕ → List ℕ
text_of sign minutes =
    sign ∷ tens (minutes / 60) ∷ ones (minutes / 60) ∷ 58 ∷ tens (minutes % 60) ∷ ones (minutes % 60) ∷ []

-- how an offset is written
abbrev pub offset_text : UtcOffset → List ℕ
offset_text (UtcOffset.Ahead minutes) = text_of 43 minutes
offset_text (UtcOffset.Behind minutes) = text_of 45 minutes
