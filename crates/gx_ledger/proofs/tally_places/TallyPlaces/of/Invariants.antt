use Rattle.std.proofs.Common.{◌≡◌, take}
use Rattle.gx_ledger.specs.Counts.{counting_from}
use Rattle.gx_ledger.proofs.tally_places.TallyPlaces.of.Given as goal

abbrev pub invariant-loop-place : goal.invariant-loop-place
invariant-loop-place l = l.items.items ≡ counting_from l.account l.own 0 (take l.place l.tallies)
