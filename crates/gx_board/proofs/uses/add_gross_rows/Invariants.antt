use Rattle.std.proofs.Common.{◌≡◌, ◌++◌, map, take}
use Rattle.std.specs.Prelude.{filter}
use Rattle.gx_board.specs.Views.{gross_use, is_gross_shown}
use Rattle.gx_board.proofs.uses.add_gross_rows.Given as goal

abbrev pub invariant-loop-row : goal.invariant-loop-row
invariant-loop-row g l = l.uses.items ≡ l.initial.uses.items ++ map (gross_use l.rule) (filter (is_gross_shown (g.G.AccessGate.state l.gate).policy (g.G.AccessGate.state l.gate).records l.viewer) (take l.row-index l.rows))
