-- What granted Kills and Close Days ended.
use Rattle.std.specs.{Prelude.{◌≡◌, ℕ, List, [], ◌++◌, length, map, sum_by, Option, Some, None, option_and_then, option_map, option_to_list}, Option.option_map_or, List.{filter_map, flat_map}}
use Rattle.gx_desk.specs.declared.Action.{Action}
use Rattle.gx_policy.specs.{declared.policy.PolicyData.PolicyData, Lists.each_with_earlier}
use Rattle.gx_history.specs.{declared.{live_order.LiveOrder.LiveOrder, «record».RecordData.RecordData}, Live.live, LiveOrders.shares_open, Requests.granted_action}
use Rattle.gx_slab.specs.Slabs.{of_account}
use Rattle.gx_endings.specs.declared.{endings.Ending.Ending, order_ends.OrderEnd.OrderEnd}

-- which of the live orders an action ends: a Kill those of its account, a Close Day all; None for any other action
abbrev pub ended_by : List LiveOrder → Action → Option (List LiveOrder)
ended_by live (Action.Kill account) = Some (of_account account live)
ended_by live Action.CloseDay = Some live
ended_by live other = None

-- the record of this number ended these orders: how many, and the shares that they had open
abbrev pub ending_of : ℕ → List LiveOrder → Ending
ending_of number ended = record { number = number; orders = length ended; shares = sum_by shares_open ended }

-- what the record ended of the orders that were live behind the earlier ones, if it is a granted Kill or Close Day
abbrev pub ending_by : PolicyData → List RecordData → RecordData → Option Ending
ending_by policy earlier r = option_map (ending_of r.number) (option_and_then (ended_by (live policy earlier)) (granted_action r))

-- what each granted Kill and Close Day ended, in their order
abbrev pub endings : PolicyData → List RecordData → List Ending
endings policy records = filter_map (λ (entry : List RecordData × RecordData). ending_by policy entry.0 entry.1) (each_with_earlier records)

-- one more stands last, where there is one
abbrev pub Grows : {X : Type 0} → List X → Option X → List X → Type 0
Grows before one after = after ≡ before ++ option_to_list one

-- the record of this number ended each of these orders
abbrev pub ends_of : ℕ → List LiveOrder → List OrderEnd
ends_of number ended = map (λ (o : LiveOrder). record { order = o.number; ended_by = number }) ended

-- each order that the record ended, if it is a granted Kill or Close Day
abbrev pub order_ends_by : PolicyData → List RecordData → RecordData → List OrderEnd
order_ends_by policy earlier r = option_map_or (ends_of r.number) (option_and_then (ended_by (live policy earlier)) (granted_action r)) []

-- each order that was live when a Kill or a Close Day ended it, in their order
abbrev pub order_ends : PolicyData → List RecordData → List OrderEnd
order_ends policy records = flat_map (λ (entry : List RecordData × RecordData). order_ends_by policy entry.0 entry.1) (each_with_earlier records)
