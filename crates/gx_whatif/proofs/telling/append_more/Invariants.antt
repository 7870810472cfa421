use Rattle.std.proofs.Common.{◌≡◌, ◌++◌, take}
use Rattle.std.specs.Prelude.{codes, flat_map}
use Rattle.gx_whatif.specs.{declared.heading.HeadingRow.HeadingRow, Telling.heading_json}
use Rattle.gx_whatif.proofs.telling.append_more.Given as goal

abbrev pub invariant-loop-row : goal.invariant-loop-row
invariant-loop-row l = l.text.items ≡ l.initial.text.items ++ flat_map (λ (row : HeadingRow). codes "," ++ heading_json row) (take l.row-index l.rows)
