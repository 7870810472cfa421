use Rattle.std.proofs.Common.{◌∙◌, ap}
use Rattle.std.specs.Map.{keys_of}
use Rattle.indexmap.proofs.CallerLemmas.{keys-insert_entry-present}
use Rattle.gx_peaks.specs.Keys.{same_key}
use Rattle.gx_peaks.proofs.Peaks_call.{put_so}
use Rattle.gx_peaks.proofs.table.PeakTable.note.Goals as goal

pub returns : goal.returns
returns g c = record {
  noted =
      put_so (g.G.AccessGate.state c.args.gate.now).policy c.policy.result.now c.policy-2.result.now (g.G.AccessGate.state c.args.gate.now).records c.args.figure c.args.self.now (record { peaks = c.insert.new.self })
      c.used.result c.in-Some.used c.key_of-key.result c.reading.result c.peak_under-before.result c.taking_in-peak.result c.policy.ensures c.policy-2.ensures c.used.ensures c.in-Some.is c.key_of-key.ensures
      c.peak_under-before.ensures c.reading.ensures c.taking_in-peak.ensures c.in_ok-insert.ensures.updates.0
      (λ there.
      ap keys_of c.in_ok-insert.ensures.entries
      ∙ keys-insert_entry-present same_key c.args.self.now.peaks c.key_of-key.result (record { account = c.args.figure.account; peak = c.taking_in-peak.result }) there);
}
