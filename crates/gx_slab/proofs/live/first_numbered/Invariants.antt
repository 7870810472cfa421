use Rattle.std.proofs.Common.{◌≡◌, drop}
use Rattle.gx_slab.specs.Slabs.{numbered_of, open_ones}
use Rattle.gx_slab.proofs.live.first_numbered.Given as goal

-- the numbers before this one give no order
abbrev pub invariant-loop-i : goal.invariant-loop-i
invariant-loop-i l = numbered_of l.account (open_ones l.fn.rows) (drop l.i l.fn.numbers) ≡ numbered_of l.account (open_ones l.fn.rows) l.fn.numbers
