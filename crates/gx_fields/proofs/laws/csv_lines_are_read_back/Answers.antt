use Rattle.std.proofs.Common.{map}
use Rattle.csv.proofs.RoundTrip.{read-write}
use Rattle.gx_fields.specs.Cells.{cell_text, cells_of}
use Rattle.gx_fields.proofs.laws.csv_lines_are_read_back.Goals as goal

pub returns : goal.returns
returns c = λ row beside behind. read-write (map cell_text (cells_of row beside)) behind
