use Rattle.gx_orders.specs.Tables.{ListsNone}
use Rattle.gx_orders.proofs.numbers.no_lists.Given as goal

abbrev pub invariant-loop-account : goal.invariant-loop-account
invariant-loop-account l = ListsNone l.lists.entries
