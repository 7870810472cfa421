use Rattle.std.proofs.Common.{◌≡◌, ◌++◌, take}
use Rattle.std.specs.Prelude.{flat_map}
use Rattle.gx_board.specs.Views.{net_uses_in}
use Rattle.gx_board.proofs.uses.add_net_of.Given as goal

abbrev pub invariant-loop-account : goal.invariant-loop-account
invariant-loop-account g l = l.uses.items ≡ l.initial.uses.items ++ flat_map (net_uses_in (g.G.AccessGate.state l.gate).policy (g.G.AccessGate.state l.gate).records l.viewer l.rule) (take l.account-index l.accounts)
