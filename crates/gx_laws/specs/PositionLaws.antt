-- What the figures are taken from, in every legal history.
use Rattle.std.specs.Prelude.{◌≡◌, ◌≤◌, length, List, [], ◌∷◌, ◌++◌, Some}
use Rattle.gx_policy.specs.declared.policy.PolicyData.{PolicyData}
use Rattle.gx_history.specs.{declared.record.{RecordData.RecordData, Step.Step}, Figures.positions, Live.live, Orders.{Order, orders, orders_added}, Turns.Turn, Verdicts.{IsLegal, day_limit, next}, World.{turn_of, world}}
use Rattle.gx_laws.specs.{Changing.{no_positions, positions_with}, Sound.{AreSound, MayChange}}

-- no record, no order
abbrev pub DaysBeginEmpty : Type 0
DaysBeginEmpty = (policy : PolicyData) → positions policy [] ≡ no_positions

-- what the record does to the live orders
abbrev pub turn_after : PolicyData → List RecordData → RecordData → Turn
turn_after policy history r = turn_of policy (world policy history) r

-- the orders that it grants
abbrev pub granted_after : PolicyData → List RecordData → RecordData → List Order
granted_after policy history r = orders_added policy (orders policy history) r

-- live orders, fills and grants after one more record are those before it, changed by what the record does
abbrev pub PositionsGoOn : Type 0
PositionsGoOn = (policy : PolicyData) (history : List RecordData) (step : Step) (r : RecordData) → IsLegal policy history → next policy history step ≡ Some r
    → positions policy (history ++ r ∷ []) ≡ positions_with (turn_after policy history r) (granted_after policy history r) (positions policy history)

-- and what it does may be done
abbrev pub RecordsMayCome : Type 0
RecordsMayCome = (policy : PolicyData) (history : List RecordData) (step : Step) (r : RecordData) → IsLegal policy history → next policy history step ≡ Some r
    → MayChange policy (positions policy history) (turn_after policy history r) (granted_after policy history r)

-- numbers differ, stocks are listed, moments never fall, and the sums fit
abbrev pub PositionsAreSound : Type 0
PositionsAreSound = (policy : PolicyData) (history : List RecordData) → IsLegal policy history → AreSound policy (positions policy history)

-- no more orders are live than a day has records
abbrev pub LiveOrdersAreFew : Type 0
LiveOrdersAreFew = (policy : PolicyData) (history : List RecordData) → IsLegal policy history → length (live policy history) ≤ day_limit
