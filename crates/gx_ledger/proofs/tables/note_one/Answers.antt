use Rattle.std.proofs.Common.{arith}
use Rattle.gx_ledger.specs.Counts.{tally_with}
use Rattle.gx_ledger.proofs.Lists_changed.{past_is_unchanged, set_is_changed}
use Rattle.gx_ledger.proofs.tables.note_one.Goals as goal

pub returns-then-index-tallies : goal.returns-then-index-tallies
returns-then-index-tallies c =
    let change = tally_with c.args.change.now c.args.group in
    set_is_changed change c.args.tallies.now c.args.index c.note_with.new.self c.index-tallies-index.result (omega (arith, c.if-index-tallies.true)) c.note_with.ensures

pub returns-else-index-tallies : goal.returns-else-index-tallies
returns-else-index-tallies c =
    past_is_unchanged (tally_with c.args.change.now c.args.group) c.args.tallies.now c.args.index (omega (arith, c.if-index-tallies.false))
