use Rattle.std.proofs.Common.{◌≡◌, map, subst, List}
use Rattle.std.specs.Prelude.{IfOk}
use Rattle.csv.specs.Writing.{default_writer, row_text}
use Rattle.gx_fields.specs.{Cells.cell_text, declared.cell.Cell.Cell}
use Rattle.gx_show.proofs.table.record_csv.Goals as goal

pub returns : goal.returns
returns c = subst (λ (cells : List Cell). IfOk c.csv_line.result (λ line. line.items ≡ row_text default_writer (map cell_text cells))) c.shown_cells.ensures c.csv_line.ensures
