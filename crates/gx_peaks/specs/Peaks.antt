-- The peak of a figure over the records of a day, and the first record behind which it is past its limit.
use Rattle.std.specs.{Prelude.{◌≡◌, ℕ, ◌≤◌, ◌<◌, nat_lt, Bool, false, IsTrue, IsFalse, List, length, take, Option, Some, None}, Option.option_map_or}
use Rattle.gx_units.specs.declared.names.RuleId.{RuleId}
use Rattle.gx_policy.specs.declared.policy.PolicyData.{PolicyData}
use Rattle.gx_history.specs.{declared.record.RecordData.RecordData, Verdicts.last_moment}
use Rattle.gx_records.specs.State.{limit_in_force}
use Rattle.gx_peaks.specs.declared.peak.Peak.{Peak}

-- the figure comes to this behind the first so many records, behind none to more, and behind fewer to less
pub record IsPeak (figure : List RecordData → ℕ) (records : List RecordData) (used number : ℕ) : Type 0 where
  pub within : number ≤ length records
  pub attained : figure (take number records) ≡ used
  pub greatest : (n : ℕ) → figure (take n records) ≤ used
  pub first : (n : ℕ) → n < number → figure (take n records) < used

-- more than the limit
abbrev pub is_over : ℕ → Option ℕ → Bool
is_over used limit = option_map_or (λ (most : ℕ). nat_lt most used) limit false

-- the figure is past the limit in force behind these records
abbrev pub is_past : (List RecordData → ℕ) → (List RecordData → Option ℕ) → List RecordData → Bool
is_past figure limit records = is_over (figure records) (limit records)

-- the figure is past the limit behind the first so many records, and not behind fewer
pub record IsPastFrom (figure : List RecordData → ℕ) (limit : List RecordData → Option ℕ) (records : List RecordData) (number : ℕ) : Type 0 where
  pub within : number ≤ length records
  pub is_so : IsTrue (is_past figure limit (take number records))
  pub none_earlier : (n : ℕ) → n < number → IsFalse (is_past figure limit (take n records))

-- the first record behind which the figure is past the limit; None where it never is
abbrev pub IsFirstPast : (List RecordData → ℕ) → (List RecordData → Option ℕ) → List RecordData → Option ℕ → Type 0
IsFirstPast figure limit records None = (n : ℕ) → IsFalse (is_past figure limit (take n records))
IsFirstPast figure limit records (Some number) = IsPastFrom figure limit records number

-- the limit of the rule in force behind these records
abbrev pub limit_behind : PolicyData → RuleId → List RecordData → Option ℕ
limit_behind policy rule records = limit_in_force policy records rule

-- The peak is that of the figure, with the limit of the rule and the moment behind its record, and with the first record behind
-- which the figure is past that limit.
pub record IsPeakOf (policy : PolicyData) (rule : RuleId) (figure : List RecordData → ℕ) (records : List RecordData) (peak : Peak) : Type 0 where
  pub greatest : IsPeak figure records peak.used peak.number
  pub limit : peak.limit ≡ limit_in_force policy (take peak.number records) rule
  pub moment : peak.moment ≡ last_moment (take peak.number records)
  pub first_past : IsFirstPast figure (limit_behind policy rule) records peak.first_past
