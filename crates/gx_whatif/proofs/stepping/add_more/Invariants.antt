use Rattle.std.proofs.Common.{◌≡◌}
use Rattle.gx_whatif.specs.Redone.{with_more}
use Rattle.gx_whatif.proofs.stepping.add_more.Given as goal

abbrev pub invariant-loop-left : goal.invariant-loop-left
invariant-loop-left l = with_more l.left l.number l.sources.items ≡ with_more l.count l.number l.fn.sources.items

abbrev pub decreases-loop-left : goal.decreases-loop-left
decreases-loop-left l = l.left
