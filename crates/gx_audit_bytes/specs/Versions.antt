-- The versions of the audit.
use Rattle.std.specs.{Prelude.{◌<◌, ◌^◌, ℕ, Bool, true, false, List, codes, nat_eq, if◌then◌else◌}, List.starts_with}
use Rattle.gx_clock.specs.Offsets.{minutes_in}
use Rattle.gx_audit_bytes.specs.{declared.version.AuditVersion.AuditVersion, Days.day_in}

-- a record's mark behind its first letter, `G`
abbrev pub mark_of : AuditVersion → List ℕ
mark_of AuditVersion.One = codes "XA1"
mark_of AuditVersion.Two = codes "XA2"
mark_of (AuditVersion.Three day) = codes "XA3"

-- bytes that begin with a header's mark are of version 2 or 3, with the header's day, all others of version 1
abbrev pub version_of : List ℕ → AuditVersion
version_of bytes =
    if starts_with nat_eq bytes (codes "GXH2") then AuditVersion.Two
    else (if starts_with nat_eq bytes (codes "GXH3") then AuditVersion.Three (day_in bytes)
    else AuditVersion.One)

-- a header stands in front of the records
abbrev pub has_header : AuditVersion → Bool
has_header AuditVersion.One = false
has_header other = true

-- the day has room in a header
abbrev pub DayFits : AuditVersion → Type 0
DayFits (AuditVersion.Three day) = (day.date < 2 ^ 32) × (minutes_in day.offset < 2 ^ 16)
DayFits other = Unit {0}
