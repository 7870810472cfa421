-- Times of day.
use Rattle.std.specs.{Prelude.{ℕ, ◌+◌, ◌*◌, ◌==◌, ◌&&◌, nat_lt, if◌then◌else◌, List, [], ◌∷◌, Option, Some, None}, Option.option_and_then}
use Rattle.gx_clock.specs.{declared.time_of_day.TimeOfDay.TimeOfDay, Offsets.two_digits}

-- the nanoseconds of a second
abbrev pub second : ℕ
second = 1000000000

-- the time at so many hours, minutes and seconds, where there are fewer than 24, 60 and 60
abbrev pub time_at : ℕ → ℕ → ℕ → Option TimeOfDay
time_at hours minutes seconds =
    if nat_lt hours 24 && (nat_lt minutes 60 && nat_lt seconds 60) then Some (record { seconds = hours * 3600 + minutes * 60 + seconds }) else None

-- two digits each for the hours, the minutes and the seconds
abbrev pub written_time : ℕ → ℕ → ℕ → ℕ → ℕ → ℕ → Option TimeOfDay
written_time a b c d e f =
    option_and_then (λ hours. option_and_then (λ minutes. option_and_then (time_at hours minutes) (two_digits e f)) (two_digits c d)) (two_digits a b)

-- the time of day that a text writes: HH:MM or HH:MM:SS
abbrev pub time_of : List ℕ → Option TimeOfDay
time_of (a ∷ b ∷ colon ∷ c ∷ d ∷ []) = if colon == 58 then written_time a b c d 48 48 else None
time_of (a ∷ b ∷ colon ∷ c ∷ d ∷ other ∷ e ∷ f ∷ []) = if colon == 58 && other == 58 then written_time a b c d e f else None
time_of other = None
