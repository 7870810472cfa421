use Rattle.std.proofs.Common.{◌≡◌, map, take}
use Rattle.gx_ledger.specs.Tallies.{new_group}
use Rattle.gx_ledger.proofs.groups.Groups.each.Given as goal

abbrev pub invariant-loop-account : goal.invariant-loop-account
invariant-loop-account l = l.items.items ≡ map (λ a. new_group l.asks l.stocks) (take l._account-index l.accounts)
