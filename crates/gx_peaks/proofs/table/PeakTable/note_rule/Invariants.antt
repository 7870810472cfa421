use Rattle.std.proofs.Common.{◌≡◌, take}
use Rattle.std.specs.Map.{keys_of}
use Rattle.gx_peaks.specs.Noting.{AdvancesTo, AreTheirs}
use Rattle.gx_peaks.proofs.Table_next.{OfKeys}
use Rattle.gx_peaks.proofs.table.PeakTable.note_rule.Given as goal

abbrev pub invariant-loop-place : goal.invariant-loop-place
invariant-loop-place g l = AreTheirs (g.G.AccessGate.state l.gate).policy l.self
    × (keys_of l.self.peaks.entries ≡ keys_of l.initial.self.peaks.entries)
    × AdvancesTo (g.G.AccessGate.state l.gate).policy (g.G.AccessGate.state l.gate).records
    (OfKeys (g.G.AccessGate.state l.gate).policy l.rule (take l.place (keys_of l.initial.self.peaks.entries))) l.initial.self l.self
