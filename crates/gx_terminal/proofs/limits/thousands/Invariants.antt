use Rattle.std.proofs.Common.{◌≡◌, length}
use Rattle.gx_terminal.specs.Amounts.{with_thousands}
use Rattle.gx_terminal.proofs.limits.thousands.Given as goal

abbrev pub invariant-loop-rest : goal.invariant-loop-rest
invariant-loop-rest l = with_thousands l.number l.rest ≡ with_thousands 0 l.text

abbrev pub decreases-loop-rest : goal.decreases-loop-rest
decreases-loop-rest l = length l.rest
