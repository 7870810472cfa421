use Rattle.std.proofs.Common.{◌∙◌, ap, refl, set}
use Rattle.gx_overview.specs.Executed.{row_filled}
use Rattle.gx_overview.proofs.Pass_next.{map_more}
use Rattle.gx_overview.proofs.executed.note_side.Goals as goal

pub loop-row-preserved : goal.loop-row-preserved
loop-row-preserved c =
    ap (set c.loop-row.rows c.loop-row.row-index) c.note.ensures
    ∙ map_more (row_filled c.args.owner c.args.fill.now) c.args.rows.now c.loop-row.rows c.loop-row.row-index _ _ c.loop-row-test.true c.loop-row.invariant refl
