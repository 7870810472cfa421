use Rattle.std.proofs.Common.{◌≡◌, take}
use Rattle.gx_warnings.specs.Noting.{with_figure_warnings}
use Rattle.gx_warnings.proofs.table.WarningTable.note_figures.Given as goal

abbrev pub invariant-loop-figure : goal.invariant-loop-figure
invariant-loop-figure g l =
    l.self.entries.entries ≡ with_figure_warnings (g.G.AccessGate.state l.gate).policy (g.G.AccessGate.state l.gate).records l.shares l.initial.self.entries.entries (take l.figure-index l.figures)
