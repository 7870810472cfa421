-- What the ledger keeps by the records of a day, and the live orders that a command ends.
use Rattle.std.specs.{Prelude.List, List.filter}
use Rattle.gx_desk.specs.declared.Action.{Action}
use Rattle.gx_policy.specs.declared.policy.PolicyData.{PolicyData}
use Rattle.gx_history.specs.{declared.{«record».RecordData.RecordData, live_order.LiveOrder.LiveOrder}, Figures.positions}
use Rattle.gx_ledger.specs.{Keeping.LedgerData, StandsFor.StandsFor}
use Rattle.gx_gate_state.specs.Ends.{is_ended}

-- it has the figures of the live orders, the fills and the grants of the day
abbrev pub StandsForDay : PolicyData → LedgerData → List RecordData → Type 0
StandsForDay policy kept history = StandsFor policy kept (positions policy history)

-- the live orders that the command ends, by number
abbrev pub ended_orders : Action → List LiveOrder → List LiveOrder
ended_orders action live = filter (is_ended action) live
