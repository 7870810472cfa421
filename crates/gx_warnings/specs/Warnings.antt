-- Which shares of the limits in force the figures of a day have passed, and the first record behind which each was.
use Rattle.std.specs.{Prelude.{◌≡◌, ℕ, ◌*◌, ◌≤◌, ◌<◌, ◌==◌, nat_lt, nat_le, Bool, ◌&&◌, false, IsTrue, IsFalse, List, length, take, Option}, Option.option_map_or, List.{AllByRecursion, count_by, list_any, Sorted.IsNonDecreasingBy}}
use Rattle.gx_policy.specs.declared.policy.PolicyData.{PolicyData}
use Rattle.gx_history.specs.declared.record.RecordData.{RecordData}
use Rattle.gx_records.specs.State.{limit_in_force}
use Rattle.gx_peaks.specs.{declared.figure.Figure.Figure, Figures.{amount, is_counted}, Raising.reading_of}
use Rattle.gx_warnings.specs.{declared.warning.Warning.Warning, Marks.{mark_of, same_mark}}

-- above 0, and no less than so many hundredths of the limit
abbrev pub passes : ℕ → ℕ → Option ℕ → Bool
passes share used limit = option_map_or (λ (most : ℕ). nat_lt 0 used && nat_le (share * most) (used * 100)) limit false

-- the figure is past the share of the limit in force behind these records
abbrev pub is_passed : PolicyData → Figure → ℕ → List RecordData → Bool
is_passed policy figure share records = passes share (amount policy figure records) (limit_in_force policy records figure.rule)

-- it is so behind the first so many records, and behind no fewer
pub record IsFirstPassed (policy : PolicyData) (figure : Figure) (share : ℕ) (records : List RecordData) (number : ℕ) : Type 0 where
  pub within : number ≤ length records
  pub is_so : IsTrue (is_passed policy figure share (take number records))
  pub none_earlier : (n : ℕ) → n < number → IsFalse (is_passed policy figure share (take n records))

-- the warning of one of these shares, with what the figure and its limit were there
pub record IsWarning (policy : PolicyData) (shares : List ℕ) (records : List RecordData) (w : Warning) : Type 0 where
  pub is_counted : IsTrue (is_counted policy w.figure)
  pub is_asked : IsTrue (list_any (λ (share : ℕ). share == w.share) shares)
  pub first : IsFirstPassed policy w.figure w.share records w.reading.number
  pub reading : w.reading ≡ reading_of policy (take w.reading.number records) w.figure.rule (amount policy w.figure (take w.reading.number records))

-- the warning is of this share of the figure
abbrev pub is_of_share : PolicyData → Figure → ℕ → Warning → Bool
is_of_share policy figure share w = same_mark (mark_of policy figure share) (mark_of policy w.figure w.share)

-- Each is a warning, in the order of their records, and there is exactly one of each share that a figure has passed.
pub record AreWarnings (policy : PolicyData) (shares : List ℕ) (records : List RecordData) (told : List Warning) : Type 0 where
  pub each : AllByRecursion (IsWarning policy shares records) told
  pub in_order : IsNonDecreasingBy (λ (w : Warning). w.reading.number) told
  pub exactly_one : (figure : Figure) → IsTrue (is_counted policy figure) → (share : ℕ) → IsTrue (list_any (λ (asked : ℕ). asked == share) shares)
      → (n : ℕ) → IsTrue (is_passed policy figure share (take n records)) → count_by (is_of_share policy figure share) told ≡ 1
