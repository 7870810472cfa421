use Rattle.std.proofs.Common.{◌≡◌, take}
use Rattle.gx_ledger.specs.Accounts.{account_names}
use Rattle.gx_ledger.proofs.tables.names_of.Given as goal

abbrev pub invariant-loop-account : goal.invariant-loop-account
invariant-loop-account l = l.names.keys ≡ account_names (take l.account-index l.accounts)
