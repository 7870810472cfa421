use Rattle.std.proofs.Common.{rules}
use Rattle.gx_ledger.proofs.Cells_counted.{counted_up}
use Rattle.gx_ledger.proofs.enters.count_up.Goals as goal

pub returns-then-cell-len-clause-counted : goal.returns-then-cell-len-clause-counted
returns-then-cell-len-clause-counted c = λ enters counted.
    counted_up c.args.cells.now.items c.args.entered.now c.cell_of-cell.result c.saturating_add.result c.index.result.now enters (search rules) (search rules) c.index.ensures c.saturating_add.ensures counted
