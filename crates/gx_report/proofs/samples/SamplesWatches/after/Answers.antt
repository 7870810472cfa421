use Rattle.gx_report.proofs.Samples_next.{stay_taken}
use Rattle.gx_report.proofs.samples.SamplesWatches.after.Goals as goal

pub returns-clause-saw : goal.returns-clause-saw
returns-clause-saw g c =
    stay_taken c.args.self.now (g.G.AccessGate.state c.args._gate.now).records c.args._left.now c.requires.last c.requires.expects
