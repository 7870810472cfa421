use Rattle.std.proofs.Common.{◌≡◌}
use Rattle.gx_access_gate.specs.Matches.{matches_left, settled_gate}
use Rattle.gx_whatif.proofs.stepping.settle.Given as goal

abbrev pub invariant-loop-fault : goal.invariant-loop-fault
invariant-loop-fault g l = settled_gate (g.G.AccessGate.state l.gate) l.moment ≡ settled_gate (g.G.AccessGate.state l.fn.gate) l.moment

abbrev pub decreases-loop-fault : goal.decreases-loop-fault
decreases-loop-fault g l = matches_left (g.G.AccessGate.state l.gate)
