-- What one more record makes of a peak.
use Rattle.std.specs.Prelude.{ℕ, nat_lt, ◌||◌, not, is_some, List, length, Option, Some, None, if◌then◌else◌}
use Rattle.gx_units.specs.declared.names.RuleId.{RuleId}
use Rattle.gx_policy.specs.declared.policy.PolicyData.{PolicyData}
use Rattle.gx_history.specs.{declared.record.RecordData.RecordData, Verdicts.last_moment}
use Rattle.gx_records.specs.State.{limit_in_force}
use Rattle.gx_peaks.specs.{declared.peak.{Peak.Peak, Reading.Reading}, Peaks.is_over}

-- of a figure that was 0 all the time
abbrev pub peak_at_zero : Option ℕ → Peak
peak_at_zero limit = record { used = 0; number = 0; moment = 0; limit = limit; first_past = None }

-- the reading behind these records
abbrev pub reading_of : PolicyData → List RecordData → RuleId → ℕ → Reading
reading_of policy records rule used = record {
  used = used;
  limit = limit_in_force policy records rule;
  number = length records;
  moment = last_moment records;
}

-- moved to the reading, where that is greater
abbrev pub raised_to : Reading → Peak → Peak
raised_to now peak =
    if nat_lt peak.used now.used
    then record { used = now.used; number = now.number; moment = now.moment; limit = now.limit; first_past = peak.first_past }
    else peak

-- first past the limit at the reading, where it is past it there and never was before
abbrev pub passed_at : Reading → Peak → Peak
passed_at now peak =
    if is_some peak.first_past || not (is_over now.used now.limit) then peak
    else record { used = peak.used; number = peak.number; moment = peak.moment; limit = peak.limit; first_past = Some now.number }

-- both
abbrev pub taken_in : Reading → Peak → Peak
taken_in now peak = passed_at now (raised_to now peak)
