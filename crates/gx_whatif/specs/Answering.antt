-- What is found of an audit.
use Rattle.std.specs.Prelude.{◌≡◌, ◌≤◌, ℕ, List, length, Err}
use Rattle.gx_policy.specs.declared.policy.PolicyData.{PolicyData}
use Rattle.gx_history.specs.{declared.record.RecordData.RecordData, Verdicts.{day_limit, IsLegal}}
use Rattle.gx_audit.specs.{Auditing.IsAnswer, Endings.IsOfDay}
use Rattle.gx_whatif.specs.{declared.{change.VerdictChange.VerdictChange, fault.WhatIfFault.WhatIfFault, heading.HeadingRow.HeadingRow}, Differing.verdict_changes, Headings.heading_rows, Redone.redone_under}

-- the day that the new policy makes has as many records as a day may have, but for granted Kills and Logouts
abbrev pub IsFilled : PolicyData → PolicyData → List RecordData → Type 0
IsFilled old new records = day_limit ≤ length (redone_under old new records).records

-- the day has so many records, the new policy makes a legal day of their steps, and these are the verdict_changes
pub record IsCompared (old new : PolicyData) (count : ℕ) (found : List VerdictChange) (records : List RecordData) : Type 0 where
  pub count_is : count ≡ length records
  pub made_legal : IsLegal new (redone_under old new records).records
  pub changes_are : found ≡ verdict_changes old new records

-- so it is of the audit's day
abbrev pub IsComparison : PolicyData → PolicyData → List ℕ → ℕ → List VerdictChange → Type 0
IsComparison old new audit count found = IsOfDay old audit (IsCompared old new count found)

-- and so often each comes under each heading
pub record IsSummary (old new : PolicyData) (count : ℕ) (found : List VerdictChange) (rows : List HeadingRow) (records : List RecordData) : Type 0 where
  pub compared : IsCompared old new count found records
  pub rows_are : rows ≡ heading_rows old found

abbrev pub IsWhatIf : PolicyData → PolicyData → List ℕ → ℕ → List VerdictChange → List HeadingRow → Type 0
IsWhatIf old new audit count found rows = IsOfDay old audit (IsSummary old new count found rows)

-- the audit has this fault; or it is of a legal day that fills the day under the new policy; or memory was refused
abbrev pub IsWhatIfFault : PolicyData → PolicyData → List ℕ → WhatIfFault → Type 0
IsWhatIfFault old new audit (WhatIfFault.Audit fault) = IsAnswer old audit (Err fault)
IsWhatIfFault old new audit WhatIfFault.DayFull = IsOfDay old audit (IsFilled old new)
