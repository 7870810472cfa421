use Rattle.std.proofs.Common.{◌-◌, length}
use Rattle.gx_report.specs.Samples.{AreTaken}
use Rattle.gx_report.proofs.samples.Samples.take_due.Given as goal

abbrev pub invariant-loop-self : goal.invariant-loop-self
invariant-loop-self g l = AreTaken (g.G.AccessGate.state l.gate).policy l.self (g.G.AccessGate.state l.gate).records

abbrev pub decreases-loop-self : goal.decreases-loop-self
decreases-loop-self g l = length l.self.counts.items - l.self.taken
