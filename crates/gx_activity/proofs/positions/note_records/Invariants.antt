use Rattle.std.proofs.Common.{◌≡◌, take}
use Rattle.gx_history.specs.Orders.{orders}
use Rattle.gx_overview.specs.Executed.{KnowOrders}
use Rattle.gx_activity.specs.Positioning.{position_table}
use Rattle.gx_activity.proofs.positions.note_records.Given as goal

-- the orders of the records so far are known, and their fills are noted
abbrev pub invariant-loop-place : goal.invariant-loop-place
invariant-loop-place l = record {
  knows : KnowOrders l.owners (orders l.policy (take l.place l.records));
  rows : l.table.entries ≡ position_table l.policy (take l.place l.records);
}
