use Rattle.std.proofs.Common.{◌∙◌, ◌<◌, arith, length}
use Rattle.gx_ledger.proofs.Tallies_told.{next_place}
use Rattle.gx_ledger.proofs.tally_places.TallyPlaces.of.Goals as goal

pub loop-place-preserved : goal.loop-place-preserved
loop-place-preserved c =
    let within : c.loop-place.place < length c.args.tallies.now = omega (arith, c.loop-place-test.true) in
    c.in_ok-put_if.ensures
    ∙ next_place c.args.account c.args.own c.args.tallies.now c.loop-place.items.items c.loop-place.place c.group_place.result c.index-tallies-place.result _ c.counts.result within c.loop-place.invariant
    c.group_place.ensures c.counts.ensures c.index-tallies-place.is
