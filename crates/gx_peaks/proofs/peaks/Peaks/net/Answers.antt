use Rattle.std.specs.Prelude.{Some}
use Rattle.gx_peaks.proofs.Peaks_first.{answered}
use Rattle.gx_peaks.proofs.peaks.Peaks.net.Goals as goal

pub returns-clause-peak : goal.returns-clause-peak
returns-clause-peak c = answered c.args.policy.now (record { rule = c.args.rule; account = c.args.account; side = Some c.args.on }) c.args.self.now.table c.peak.result c.peak.ensures.counted c.peak.ensures.peak
