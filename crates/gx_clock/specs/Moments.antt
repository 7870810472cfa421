-- Moments of a server's day, in nanoseconds past its midnight.
use Rattle.std.specs.Prelude.{ℕ, ◌+◌, ◌-◌, ◌*◌, ◌/◌, ◌%◌, ◌^◌, min, max, Option, Some, None, ◌≡◌}
use Rattle.gx_clock.specs.declared.offset.UtcOffset.{UtcOffset}

-- the nanoseconds of a minute, and of a day
abbrev pub minute : ℕ
minute = 60000000000

abbrev pub day : ℕ
day = 86400000000000

-- the last moment that a clock shows: three days behind its midnight, less a nanosecond
abbrev pub last_shown : ℕ
last_shown = 3 * day - 1

-- the last date
abbrev pub last_date : ℕ
last_date = 2 ^ 32 - 1

-- by how much local time is ahead of UTC, less whole days
abbrev pub ahead_of_utc : UtcOffset → ℕ
ahead_of_utc (UtcOffset.Ahead minutes) = minutes * minute
ahead_of_utc (UtcOffset.Behind minutes) = day - minutes * minute % day

-- how long ago local midnight was, so many nanoseconds behind the beginning of 1970 in UTC
abbrev pub moment_of_day : UtcOffset → ℕ → ℕ
moment_of_day offset since = (since + ahead_of_utc offset) % day

-- the local time, so many nanoseconds behind the beginning of 1970 there; no earlier than that
abbrev pub local_time : UtcOffset → ℕ → ℕ
local_time (UtcOffset.Ahead minutes) since = since + minutes * minute
local_time (UtcOffset.Behind minutes) since = since - minutes * minute

-- the local date, in days since 1 January 1970, as far as dates go; 0 where the wall clock can't be read
abbrev pub date_of : UtcOffset → Option ℕ → ℕ
date_of offset (Some since) = min (local_time offset since / day) last_date
date_of offset None = 0

-- a clock began at one reading, at the moment `start`: the moment at another reading
abbrev pub moment_at : ℕ → ℕ → ℕ → ℕ
moment_at start begun now = min (start + (now - begun)) last_shown

-- the first moment of a run: that of the wall clock, or 0 where that can't be read, but no earlier than the day's last
-- record
abbrev pub first_moment : UtcOffset → Option ℕ → ℕ → ℕ
first_moment offset (Some since) last = min (max (moment_of_day offset since) last) last_shown
first_moment offset None last = min last last_shown

-- what contracts see of a clock: its first moment, and what the monotonic clock read then, if it could be read
pub record ClockData : Type 0 where
  pub start : ℕ
  pub begun : Option ℕ

-- the moment that a clock shows at a reading; where there is none, it is not said which
abbrev pub IsShown : ClockData → Option ℕ → ℕ → Type 0
IsShown clock reading moment =
    (begun now : ℕ) → clock.begun ≡ Some begun → reading ≡ Some now → moment ≡ moment_at clock.start begun now
