use Rattle.std.proofs.Common.{rules}
use Rattle.gx_ledger.proofs.Cells_counted.{counted_down}
use Rattle.gx_ledger.proofs.enters.count_down.Goals as goal

pub returns-then-cell-len-clause-counted : goal.returns-then-cell-len-clause-counted
returns-then-cell-len-clause-counted c = λ enters counted.
    counted_down c.args.cells.now.items c.args.gone.now c.cell_of-cell.result c.one_less.result c.index.result.now enters (search rules) (search rules) c.index.ensures c.one_less.ensures counted
