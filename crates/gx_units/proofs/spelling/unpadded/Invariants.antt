use Rattle.std.proofs.Common.{◌≡◌, ◌≤◌, length, take}
use Rattle.gx_units.specs.Spelling.{without_right_spaces}
use Rattle.gx_units.proofs.spelling.unpadded.Given as goal

abbrev pub invariant-loop-end : goal.invariant-loop-end
invariant-loop-end l = record {
  within : l.end ≤ length l.field;
  same : without_right_spaces (take l.end l.field) ≡ without_right_spaces l.field;
}

abbrev pub decreases-loop-end : goal.decreases-loop-end
decreases-loop-end l = l.end
