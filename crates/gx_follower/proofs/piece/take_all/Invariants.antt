use Rattle.std.proofs.Common.{◌≡◌, ◌++◌, length}
use Rattle.gx_follower.specs.Readings.{read_of, IsSettled}
use Rattle.gx_follower.proofs.piece.take_all.Given as goal

abbrev pub invariant-loop-left : goal.invariant-loop-left
invariant-loop-left g l = record {
  settled : IsSettled l.reading (g.G.AccessGate.state l.gate);
  policy : (g.G.AccessGate.state l.gate).policy ≡ (g.G.AccessGate.state l.fn.gate).policy;
  saw : g.W.Watches.saw l.watcher (g.G.AccessGate.state l.gate).policy (g.G.AccessGate.state l.gate).records;
  asked : g.W.Watches.asked l.watcher ≡ g.W.Watches.asked l.fn.watcher;
  read : read_of l.reading (g.G.AccessGate.state l.gate) ++ l.left ≡ read_of l.fn.reading (g.G.AccessGate.state l.fn.gate) ++ l.bytes;
}

abbrev pub decreases-loop-left : goal.decreases-loop-left
decreases-loop-left g l = length l.left
