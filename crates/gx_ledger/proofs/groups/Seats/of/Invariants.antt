use Rattle.std.proofs.Common.{◌≡◌, map, take}
use Rattle.gx_units.specs.declared.names.AccountName.{AccountName}
use Rattle.gx_ledger.specs.{Accounts.{account_names, account_place}, Tallies.seat_for}
use Rattle.gx_ledger.proofs.groups.Seats.of.Given as goal

abbrev pub invariant-loop-account : goal.invariant-loop-account
invariant-loop-account l =
    l.items.items ≡ map (λ (name : AccountName). seat_for l.scope l.count name (account_place (account_names l.accounts) name)) (account_names (take l.account-index l.accounts))
