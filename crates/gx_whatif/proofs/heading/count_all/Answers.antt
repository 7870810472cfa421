use Rattle.std.proofs.Common.{refl}
use Rattle.gx_whatif.proofs.Counts_next.{counted_further}
use Rattle.gx_whatif.proofs.heading.count_all.Goals as goal

pub loop-change-preserved : goal.loop-change-preserved
loop-change-preserved c =
    counted_further c.args.policy.now c.args.found.now c.loop-change.change-index _ _ c.loop-change.table.entries c.count_change.new.table.entries c.loop-change-test.true refl c.loop-change.invariant c.in_ok-count_change.ensures.counted
