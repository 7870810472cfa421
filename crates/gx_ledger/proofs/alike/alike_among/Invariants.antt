use Rattle.std.proofs.Common.{◌≡◌, ◌+◌, length}
use Rattle.std.specs.Prelude.{count_by}
use Rattle.gx_ledger.specs.Running.{are_alike}
use Rattle.gx_ledger.proofs.alike.alike_among.Given as goal

abbrev pub invariant-loop-left : goal.invariant-loop-left
invariant-loop-left l =
    l.count + count_by (are_alike l.asked) l.left ≡ count_by (are_alike l.asked) l.enters

abbrev pub decreases-loop-left : goal.decreases-loop-left
decreases-loop-left l = length l.left
