use Rattle.gx_orders.specs.Tables.{CountsNone}
use Rattle.gx_orders.proofs.counts.no_counts.Given as goal

abbrev pub invariant-loop-user : goal.invariant-loop-user
invariant-loop-user l = CountsNone l.counts.entries
