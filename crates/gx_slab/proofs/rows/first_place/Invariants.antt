use Rattle.std.proofs.Common.{◌≤◌}
use Rattle.gx_slab.specs.Slabs.{first_place}
use Rattle.gx_slab.proofs.rows.first_place.Given as goal

-- the first is not before this place
abbrev pub invariant-loop-place : goal.invariant-loop-place
invariant-loop-place l = l.place ≤ first_place l.fn.rows
