use Rattle.gx_access_gate.specs.Matches.{matches_left}
use Rattle.gx_script_run.proofs.Settle_call.{Settles}
use Rattle.gx_script_run.proofs.running.settle_lines.Given as goal

abbrev pub invariant-loop : goal.invariant-loop
invariant-loop g l = Settles (g.G.AccessGate.state l.fn.gate) l.moment l.text.items (g.G.AccessGate.state l.gate)

abbrev pub decreases-loop : goal.decreases-loop
decreases-loop g l = matches_left (g.G.AccessGate.state l.gate)
