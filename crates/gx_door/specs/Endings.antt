-- What a record ended: the live orders of a killed account, or all at the end of the day.
use Rattle.std.specs.{Prelude.{List, [], length, sum_by}, List.filter, Option.option_map_or}
use Rattle.gx_desk.specs.declared.Action.{Action}
use Rattle.gx_policy.specs.declared.policy.PolicyData.{PolicyData}
use Rattle.gx_history.specs.{declared.{live_order.LiveOrder.LiveOrder, «record».RecordData.RecordData}, Live.live, LiveOrders.shares_open, Orders.ends_account, Requests.granted_action}
use Rattle.gx_door.specs.declared.ended.EndedTotals.{EndedTotals}

-- of these orders those that a command ends: for a Kill those of its account, for a Close Day all, for any other none
abbrev pub ended_among : List LiveOrder → Action → List LiveOrder
ended_among found action = filter (λ (o : LiveOrder). ends_account o.account action) found

-- the orders live in front of the record that it ends by the command that it grants
abbrev pub ended_by : PolicyData → List RecordData → RecordData → List LiveOrder
ended_by policy earlier r = option_map_or (ended_among (live policy earlier)) (granted_action r) []

-- how many orders these are, and how many of their shares are open
abbrev pub sums_of : List LiveOrder → EndedTotals
sums_of found = record { orders = length found; shares = sum_by shares_open found }
