use Rattle.std.proofs.Common.{◌≡◌, take}
use Rattle.std.specs.Prelude.{fold}
use Rattle.gx_history.specs.{Executions.executions, Orders.orders}
use Rattle.gx_overview.specs.Executed.{KnowOrders, rows_after}
use Rattle.gx_overview.proofs.executed.note_each.Given as goal

-- the orders and the fills of the records so far are noted
abbrev pub invariant-loop-place : goal.invariant-loop-place
invariant-loop-place l = record {
  knows : KnowOrders l.owners (orders l.policy (take l.place l.records));
  rows : l.rows ≡ fold rows_after l.initial.rows (executions l.policy (take l.place l.records));
}
