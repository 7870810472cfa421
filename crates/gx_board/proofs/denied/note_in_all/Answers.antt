use Rattle.std.proofs.Common.{◌∙◌, ap, refl, set}
use Rattle.gx_board.specs.Counting.{row_counted}
use Rattle.gx_overview.proofs.Pass_next.{map_more}
use Rattle.gx_board.proofs.denied.note_in_all.Goals as goal

pub loop-row-preserved : goal.loop-row-preserved
loop-row-preserved c =
    ap (set c.loop-row.rows c.loop-row.row-index) c.note.ensures
    ∙ map_more (row_counted c.args.left.now) c.args.rows.now c.loop-row.rows c.loop-row.row-index _ _ c.loop-row-test.true c.loop-row.invariant refl
