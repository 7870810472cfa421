use Rattle.std.proofs.Common.{◌≡◌, map, take}
use Rattle.gx_overview.specs.Executed.{no_executions}
use Rattle.gx_overview.proofs.executed.first_rows.Given as goal

abbrev pub invariant-loop-account : goal.invariant-loop-account
invariant-loop-account l = l.rows.items ≡ map no_executions (take l.account-index l.accounts)
