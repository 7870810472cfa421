use Rattle.std.proofs.Common.{◌≡◌, map, take}
use Rattle.gx_overview.specs.Accounts.{row_of}
use Rattle.gx_overview.proofs.accounts.rows_of.Given as goal

abbrev pub invariant-loop-account : goal.invariant-loop-account
invariant-loop-account g l = l.rows.items ≡ map (row_of (g.G.AccessGate.state l.gate).policy (g.G.AccessGate.state l.gate).records l.table.entries) (take l.account-index l.accounts)
