use Rattle.std.proofs.Common.{◌≡◌, take}
use Rattle.gx_rules.specs.Places.{places_of}
use Rattle.gx_rules.proofs.rule_places.places_by_account.Given as goal

abbrev pub invariant-loop-account : goal.invariant-loop-account
invariant-loop-account l = l.table.entries ≡ places_of l.rules (take l.account-index l.accounts)
