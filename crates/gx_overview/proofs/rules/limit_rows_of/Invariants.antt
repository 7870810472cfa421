use Rattle.std.proofs.Common.{◌≡◌, map, take}
use Rattle.gx_overview.specs.Rules.{limit_row}
use Rattle.gx_overview.proofs.rules.limit_rows_of.Given as goal

abbrev pub invariant-loop-rule : goal.invariant-loop-rule
invariant-loop-rule g l = l.rows.items ≡ map (limit_row (g.G.AccessGate.state l.gate).policy (g.G.AccessGate.state l.gate).records) (take l.rule-index l.rules)
