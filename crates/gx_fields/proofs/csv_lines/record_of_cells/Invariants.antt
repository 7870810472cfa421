use Rattle.std.proofs.Common.{◌≡◌, [], map, take}
use Rattle.csv.specs.Records.{fields_of, partial_of}
use Rattle.gx_fields.specs.Cells.{cell_text}
use Rattle.gx_fields.proofs.csv_lines.record_of_cells.Given as goal

abbrev pub invariant-loop-cell : goal.invariant-loop-cell
invariant-loop-cell l = record {
  fields : fields_of l.row ≡ map cell_text (take l.cell-index l.cells);
  partial : partial_of l.row ≡ [];
}
