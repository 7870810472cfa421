use Rattle.std.proofs.Common.{take}
use Rattle.gx_peaks.specs.Noting.{AdvancesTo}
use Rattle.gx_peaks.proofs.Table_next.{OfRules}
use Rattle.gx_peaks.proofs.table.PeakTable.note_account.Given as goal

abbrev pub invariant-loop-rule : goal.invariant-loop-rule
invariant-loop-rule g l =
    AdvancesTo (g.G.AccessGate.state l.gate).policy (g.G.AccessGate.state l.gate).records
    (OfRules (g.G.AccessGate.state l.gate).policy l.account l.side (take l.rule-index l.rule-items)) l.initial.self l.self
