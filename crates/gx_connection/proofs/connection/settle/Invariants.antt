use Rattle.gx_access_gate.specs.Matches.{matches_left, IsSettling}
use Rattle.gx_connection.proofs.connection.settle.Given as goal

abbrev pub invariant-loop : goal.invariant-loop
invariant-loop g l = IsSettling (g.G.AccessGate.state l.fn.gate) l.moment (g.G.AccessGate.state l.gate)

abbrev pub decreases-loop : goal.decreases-loop
decreases-loop g l = matches_left (g.G.AccessGate.state l.gate)
