use Rattle.std.proofs.Common.{◌≡◌, take}
use Rattle.gx_report.specs.Samples.{most_used}
use Rattle.gx_report.proofs.samples.most_used.Given as goal

abbrev pub invariant-loop-stock : goal.invariant-loop-stock
invariant-loop-stock g l = l.most ≡ most_used (g.G.AccessGate.state l.gate).policy (g.G.AccessGate.state l.gate).records l.seat (take l.stock-index l.stocks)
