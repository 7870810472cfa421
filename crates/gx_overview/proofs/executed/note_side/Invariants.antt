use Rattle.std.proofs.Common.{◌≡◌, ◌++◌, map, take, drop}
use Rattle.gx_overview.specs.Executed.{row_filled}
use Rattle.gx_overview.proofs.executed.note_side.Given as goal

abbrev pub invariant-loop-row : goal.invariant-loop-row
invariant-loop-row l = l.rows ≡ map (row_filled l.owner l.fill) (take l.row-index l.initial.rows) ++ drop l.row-index l.initial.rows
