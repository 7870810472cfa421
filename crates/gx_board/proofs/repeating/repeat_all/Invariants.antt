use Rattle.std.proofs.Common.{◌≡◌, ◌++◌, take}
use Rattle.gx_board.proofs.repeating.repeat_all.Given as goal

abbrev pub invariant-loop-left : goal.invariant-loop-left
invariant-loop-left g l = record {
  policy : (g.G.AccessGate.state l.gate).policy ≡ (g.G.AccessGate.state l.fn.gate).policy;
  records : (g.G.AccessGate.state l.gate).records ≡ (g.G.AccessGate.state l.fn.gate).records ++ take l.left-index l.records;
}
