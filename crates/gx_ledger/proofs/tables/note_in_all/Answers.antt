use Rattle.std.proofs.{Common.{◌∙◌, ◌<◌, None, ap, sym, arith, length, set}, lemmas.List.Edits.map_over_more}
use Rattle.gx_ledger.specs.Tallies.{tally_after}
use Rattle.gx_ledger.proofs.tables.note_in_all.Goals as goal

pub loop-tally-preserved : goal.loop-tally-preserved
loop-tally-preserved c =
    let within : c.loop-tally.tally-index < length c.args.tallies.now = omega (arith, c.loop-tally-test.true) in
    ap (set c.loop-tally.tallies c.loop-tally.tally-index) (c.note.ensures ∙ ap (tally_after c.args.change.now None) (sym c.tally-item.is))
    ∙ map_over_more (tally_after c.args.change.now None) c.args.tallies.now c.loop-tally.tallies c.loop-tally.tally-index c.tally-item.result within c.loop-tally.invariant c.tally-item.is
