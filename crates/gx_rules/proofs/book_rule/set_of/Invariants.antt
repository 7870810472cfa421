use Rattle.std.proofs.Common.{◌≡◌, take}
use Rattle.gx_rules.proofs.book_rule.set_of.Given as goal

abbrev pub invariant-loop-stock : goal.invariant-loop-stock
invariant-loop-stock l = l.set.keys ≡ take l.stock-index l.stocks
