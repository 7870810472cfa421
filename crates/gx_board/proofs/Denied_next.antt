-- What one more record makes of the rows of rules.
use Rattle.std.proofs.Common.{◌≡◌, ℕ, false, List, [], ◌∷◌, map, refl}
use Rattle.gx_history.specs.declared.record.{RecordData.RecordData, Step.Step, Verdict.Verdict}
use Rattle.gx_board.specs.{declared.denied.DeniedRow.DeniedRow, Counting.{denies, row_counted}}

by_verdict : (v : Verdict) (row : DeniedRow) (step : Step) (number moment : ℕ) → denies (record { number = number; moment = moment; step = step; verdict = v }) ≡ false
    → row_counted (record { number = number; moment = moment; step = step; verdict = v }) row ≡ row
by_verdict Verdict.Granted row step number moment none = refl
by_verdict (Verdict.Denied rule) row step number moment none = cc
by_verdict (Verdict.Filled f) row step number moment none = refl
by_verdict (Verdict.Rested order) row step number moment none = refl
by_verdict (Verdict.Expired order) row step number moment none = refl

-- a record that denies nothing is counted in no row
none_denied : (r : RecordData) (row : DeniedRow) → denies r ≡ false → row_counted r row ≡ row
none_denied r row none = by_verdict r.verdict row r.step r.number r.moment none

pub none_counted : (r : RecordData) (rows : List DeniedRow) → denies r ≡ false → map (row_counted r) rows ≡ rows
none_counted r [] none = refl
none_counted r (row ∷ rows) none = λ i. none_denied r row none i ∷ none_counted r rows none i
