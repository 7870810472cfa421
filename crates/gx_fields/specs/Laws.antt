-- What is read of a line of CSV.
use Rattle.std.specs.Prelude.{◌≡◌, ℕ, List, [], ◌++◌, map, Some}
use Rattle.csv.specs.{Machine.next_record, Reading.default_config, Writing.{default_writer, row_text}, declared.parser.State.State}
use Rattle.gx_fields.specs.{declared.{cell.Beside.Beside, row.Row.Row}, Cells.{cell_text, cells_of}}

-- the first record of the line of a row, and of what stands behind it, is the texts of its cells, and what stands behind is left
abbrev pub LinesAreReadBack : Type 0
LinesAreReadBack =
    (row : Row) (beside : Beside) (behind : List ℕ)
    → next_record default_config State.StartRecord [] [] (row_text default_writer (map cell_text (cells_of row beside)) ++ behind)
    ≡ Some (map cell_text (cells_of row beside), State.StartRecord, behind)
