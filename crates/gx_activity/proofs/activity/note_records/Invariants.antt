use Rattle.std.proofs.Common.{◌≡◌, take}
use Rattle.gx_policy.specs.declared.policy.Account.{Account}
use Rattle.gx_history.specs.Orders.{orders}
use Rattle.gx_overview.specs.Executed.{KnowOrders}
use Rattle.gx_activity.specs.Noting.{row_in, so_far}
use Rattle.gx_activity.proofs.activity.note_records.Given as goal

-- the orders of the records so far are known, and what these tell is counted
abbrev pub invariant-loop-place : goal.invariant-loop-place
invariant-loop-place l = record {
  knows : KnowOrders l.owners (orders l.policy (take l.place l.records));
  rows : (a : Account) → row_in l.table.entries a.name ≡ so_far l.policy (take l.place l.records) a;
}
