use Rattle.std.proofs.Common.{◌≡◌, map}
use Rattle.std.specs.Prelude.{filter}
use Rattle.gx_board.specs.Sight.{is_record_shown}
use Rattle.gx_board.proofs.view.records_shown.Given as goal

abbrev pub invariant-loop-left : goal.invariant-loop-left
invariant-loop-left g l = l.shown.items ≡ filter (is_record_shown (g.G.AccessGate.state l.gate).policy (g.G.AccessGate.state l.gate).records l.viewer) (map (λ left. left.now) l.yielded)
