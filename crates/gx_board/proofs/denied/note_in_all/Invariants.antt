use Rattle.std.proofs.Common.{◌≡◌, ◌++◌, map, take, drop}
use Rattle.gx_board.specs.Counting.{row_counted}
use Rattle.gx_board.proofs.denied.note_in_all.Given as goal

abbrev pub invariant-loop-row : goal.invariant-loop-row
invariant-loop-row l = l.rows ≡ map (row_counted l.left) (take l.row-index l.initial.rows) ++ drop l.row-index l.initial.rows
