use Rattle.std.proofs.{Common.{◌≡◌, ◌≤◌, get_or, count_by, rules, arith}, lemmas.Bool.ltb-true}
use Rattle.gx_ledger.specs.Running.{are_alike}
use Rattle.gx_ledger.proofs.Cells_counted.{few_alike}
use Rattle.gx_ledger.proofs.enters.are_fewer.Goals as goal

pub returns : goal.returns
returns c = λ fewer enters counted.
    let cells = c.args.cells.now in
    let at = c.cell_of-cell.result in
    let most : count_by (are_alike c.args.asked.now) enters ≤ get_or cells at 0 = few_alike cells c.args.asked.now at enters (search rules) (search rules) (search rules) counted in
    let there : c.from.result ≡ get_or cells at 0 = search rules in
    let below = ltb-true c.from.result c.args.limit fewer in
    omega (arith, most, there, below)
