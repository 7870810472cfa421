use Rattle.std.proofs.Common.{arith, length-take, sym}
use Rattle.gx_audit.proofs.checking.record_at.Goals as goal

pub slice_bounds-whole-end : goal.slice_bounds-whole-end
slice_bounds-whole-end c = omega (arith, c.requires, c.behind-left.ensures.len, length-take 128 c.behind-left.result.now)

pub whole-requires : goal.whole-requires
whole-requires c = (omega arith, sym (slice_bounds-whole-end c))
