use Rattle.std.proofs.Common.{◌≡◌, take}
use Rattle.std.specs.Prelude.{flat_map}
use Rattle.gx_board.specs.Views.{net_uses_of}
use Rattle.gx_board.proofs.uses.net_uses_among.Given as goal

abbrev pub invariant-loop-rule : goal.invariant-loop-rule
invariant-loop-rule g l = l.uses.items ≡ flat_map (net_uses_of (g.G.AccessGate.state l.gate).policy (g.G.AccessGate.state l.gate).records l.viewer) (take l.rule-index l.rules)
