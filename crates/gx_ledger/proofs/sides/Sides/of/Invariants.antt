use Rattle.std.proofs.Common.{◌≡◌, take}
use Rattle.gx_ledger.specs.Running.{first_sides}
use Rattle.gx_ledger.proofs.sides.Sides.of.Given as goal

abbrev pub invariant-loop-stock : goal.invariant-loop-stock
invariant-loop-stock l = l.sums.entries ≡ first_sides (take l.stock-index l.stocks)
