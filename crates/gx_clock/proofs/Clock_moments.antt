-- Moments go on, and local midnight is where it is.
use Rattle.std.proofs.Common.{◌≡◌, ℕ, ◌+◌, ◌*◌, ◌/◌, ◌%◌, ◌≤◌, Some, arith}
use Rattle.gx_clock.specs.{declared.offset.UtcOffset.UtcOffset, Offsets.minutes_in, Moments.{date_of, minute, day, last_date, local_time, moment_of_day, moment_at}}

pub goes_on : (start begun now later : ℕ) → now ≤ later → moment_at start begun now ≤ moment_at start begun later
goes_on start begun now later h = omega (arith, h)

pub behind : (minutes since : ℕ) → (moment_of_day (UtcOffset.Behind minutes) since + minutes * minute) % day ≡ since % day
behind minutes since = omega arith

-- the date and the moment are the local time
pub local_day : (offset : UtcOffset) (since : ℕ) → minutes_in offset * minute ≤ since → local_time offset since / day ≤ last_date
    → date_of offset (Some since) * day + moment_of_day offset since ≡ local_time offset since
local_day (UtcOffset.Ahead minutes) since enough dated = omega (arith, dated)
local_day (UtcOffset.Behind minutes) since enough dated = omega (arith, enough, dated)
