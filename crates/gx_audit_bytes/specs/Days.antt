-- The day that a header of version 3 shows.
use Rattle.std.specs.{Prelude.{ℕ, List, take, ◌==◌, if◌then◌else◌}, Int.{w8, w16, w32, from_be_bytes}}
use Rattle.gx_ouch.specs.Layout.{Field, field, bytes_at}
use Rattle.gx_clock.specs.declared.offset.UtcOffset.{UtcOffset}
use Rattle.gx_audit_bytes.specs.{declared.day.AuditDay.AuditDay, Bodies.zero_padded}

-- where the date stands, and the sign and the minutes of the offset
abbrev pub date_place : Field
date_place = field 55 4

abbrev pub sign_place : Field
sign_place = field 59 1

abbrev pub minutes_place : Field
minutes_place = field 60 2

-- `+` ahead of UTC, `-` behind
abbrev pub sign_shown : UtcOffset → ℕ
sign_shown (UtcOffset.Ahead minutes) = 43
sign_shown (UtcOffset.Behind minutes) = 45

-- the offset with this sign and so many minutes
abbrev pub offset_shown : ℕ → ℕ → UtcOffset
offset_shown sign minutes = if sign == 45 then UtcOffset.Behind minutes else UtcOffset.Ahead minutes

-- the day that a whole header shows
abbrev pub day_shown : List ℕ → AuditDay
day_shown header = record {
  date = from_be_bytes w32 (bytes_at date_place header);
  offset = offset_shown (from_be_bytes w8 (bytes_at sign_place header)) (from_be_bytes w16 (bytes_at minutes_place header));
}

-- the day of an audit, by its header; zero bytes stand for those that are missing
unfoldable pub day_in : List ℕ → AuditDay
day_in audit = day_shown (zero_padded 128 (take 128 audit))
