use Rattle.std.proofs.Common.{◌-◌, ◌≤◌}
use Rattle.gx_audit.proofs.places.count_until.Given as goal

abbrev pub invariant-loop-passed : goal.invariant-loop-passed
invariant-loop-passed l = l.passed ≤ l.end

abbrev pub decreases-loop-passed : goal.decreases-loop-passed
decreases-loop-passed l = l.end - l.passed
