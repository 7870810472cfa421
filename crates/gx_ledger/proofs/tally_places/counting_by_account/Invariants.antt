use Rattle.std.proofs.Common.{◌≡◌, map, take}
use Rattle.gx_ledger.specs.{Counts.places_counting, Accounts.account_names}
use Rattle.gx_ledger.proofs.tally_places.counting_by_account.Given as goal

abbrev pub invariant-loop-account : goal.invariant-loop-account
invariant-loop-account l = l.places.items ≡ map (places_counting (account_names l.accounts) l.tallies) (account_names (take l.account-index l.accounts))
