use Rattle.std.proofs.Common.{◌≡◌, take}
use Rattle.gx_rules.specs.Places.{places_covering}
use Rattle.gx_rules.proofs.rule_places.RulePlaces.of.Given as goal

abbrev pub invariant-loop-place : goal.invariant-loop-place
invariant-loop-place l = l.items.items ≡ places_covering (take l.place l.rules) l.account
