use Rattle.std.proofs.Common.{◌≡◌, map, take}
use Rattle.gx_overview.specs.Rules.{gross_row}
use Rattle.gx_overview.proofs.rules.gross_rows_of.Given as goal

abbrev pub invariant-loop-account : goal.invariant-loop-account
invariant-loop-account g l = l.rows.items ≡ map (gross_row (g.G.AccessGate.state l.gate).policy (g.G.AccessGate.state l.gate).records l.rule) (take l.account-index l.accounts)
