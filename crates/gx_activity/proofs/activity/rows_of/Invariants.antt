use Rattle.std.proofs.Common.{◌≡◌, map, take}
use Rattle.gx_policy.specs.declared.policy.Account.{Account}
use Rattle.gx_activity.specs.Noting.{row_in}
use Rattle.gx_activity.proofs.activity.rows_of.Given as goal

abbrev pub invariant-loop-account : goal.invariant-loop-account
invariant-loop-account l = l.rows.items ≡ map (λ (a : Account). row_in l.table.entries a.name) (take l.account-index l.accounts)
