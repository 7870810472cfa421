-- What is kept of the warnings behind the records of a day.
use Rattle.std.specs.{Prelude.{◌≡◌, ℕ, ◌≤◌, ◌==◌, IsTrue, IsFalse, List, map, take, Option, Some, None}, List.{AllByRecursion, count_by, list_any, Sorted.IsNonDecreasingBy}, Map.lookup}
use Rattle.gx_policy.specs.declared.policy.PolicyData.{PolicyData}
use Rattle.gx_history.specs.declared.record.RecordData.{RecordData}
use Rattle.gx_peaks.specs.{declared.figure.Figure.Figure, Figures.is_counted, Touching.gains_of}
use Rattle.gx_warnings.specs.{declared.{mark.Mark.Mark, warning.Warning.Warning, warnings.Warnings.Warnings}, Marks.{mark_of, same_mark}, Warnings.{IsFirstPassed, IsWarning, is_passed}}

-- what is kept of a share of the figure: the warning of its first passing; none where it never was passed
abbrev pub IsKnown : PolicyData → Figure → ℕ → List RecordData → Option Warning → Type 0
IsKnown policy figure share records None = (n : ℕ) → IsFalse (is_passed policy figure share (take n records))
IsKnown policy figure share records (Some w) = IsFirstPassed policy figure share records w.reading.number

-- an entry is a warning under its mark
pub record IsEntry (policy : PolicyData) (shares : List ℕ) (records : List RecordData) (entry : Mark × Warning) : Type 0 where
  pub has_mark : entry.0 ≡ mark_of policy entry.1.figure entry.1.share
  pub is_warning : IsWarning policy shares records entry.1

-- this is what is kept of each share of each figure
pub record Keeps (policy : PolicyData) (shares : List ℕ) (records : List RecordData) (entries : List (Mark × Warning)) : Type 0 where
  pub known : (figure : Figure) → IsTrue (is_counted policy figure) → (share : ℕ) → IsTrue (list_any (λ (asked : ℕ). asked == share) shares)
      → IsKnown policy figure share records (lookup (same_mark (mark_of policy figure share)) entries)
  pub each : AllByRecursion (IsEntry policy shares records) entries
  pub in_order : IsNonDecreasingBy (λ (entry : Mark × Warning). entry.1.reading.number) entries
  pub once : (mark : Mark) → count_by (λ (entry : Mark × Warning). same_mark mark entry.0) entries ≤ 1

-- the warnings, in their order
abbrev pub warnings_of : Warnings → List Warning
warnings_of warnings = map (λ (entry : Mark × Warning). entry.1) warnings.table.entries.entries

-- these are the warnings over these records, those of a first use among them
pub record AreWarningsKept (policy : PolicyData) (records : List RecordData) (warnings : Warnings) : Type 0 where
  pub keeps : Keeps policy warnings.shares.items records warnings.table.entries.entries
  pub first_uses : IsTrue (list_any (λ (asked : ℕ). asked == 0) warnings.shares.items)

-- and whose sell the record that comes next fills is known
pub record AreWarningsExpecting (policy : PolicyData) (records : List RecordData) (next : RecordData) (warnings : Warnings) : Type 0 where
  pub kept : AreWarningsKept policy records warnings
  pub seller : warnings.seller ≡ gains_of policy records next
