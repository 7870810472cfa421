use Rattle.std.proofs.Common.{drop}
use Rattle.gx_orders.proofs.EndedOrders_call.{AreEnding}
use Rattle.gx_orders.proofs.ending.end_each.Given as goal

-- the orders of the numbers before this one have ended
abbrev pub invariant-loop-i : goal.invariant-loop-i
invariant-loop-i l = AreEnding l.account l.fn.table (drop l.i l.fn.numbers) l.table l.counts.entries
