-- What raises no figure, and leaves a limit as it is.
use Rattle.std.specs.Prelude.{◌≡◌, ◌≤◌, IsFalse, List, [], ◌∷◌, ◌++◌, None}
use Rattle.gx_units.specs.declared.names.RuleId.{RuleId}
use Rattle.gx_policy.specs.declared.policy.PolicyData.{PolicyData}
use Rattle.gx_history.specs.{declared.record.RecordData.RecordData, Orders.{orders, orders_added}, Verdicts.IsLegal}
use Rattle.gx_records.specs.State.{limit_in_force}
use Rattle.gx_peaks.specs.{declared.figure.Figure.Figure, Figures.amount, Touching.{gains_of, sets_limit}}

-- a record that grants no order, and fills no sell as the order that came in, raises no figure
abbrev pub MostRaiseNothing : Type 0
MostRaiseNothing = (policy : PolicyData) (records : List RecordData) (r : RecordData) (figure : Figure) → IsLegal policy (records ++ r ∷ [])
    → orders_added policy (orders policy records) r ≡ [] → gains_of policy records r ≡ None → amount policy figure (records ++ r ∷ []) ≤ amount policy figure records

-- a record that does not set the limit of a rule leaves it as it is
abbrev pub LimitsStay : Type 0
LimitsStay = (policy : PolicyData) (records : List RecordData) (r : RecordData) (rule : RuleId)
    → IsFalse (sets_limit r rule) → limit_in_force policy (records ++ r ∷ []) rule ≡ limit_in_force policy records rule
