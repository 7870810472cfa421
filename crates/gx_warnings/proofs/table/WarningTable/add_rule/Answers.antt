use Rattle.std.proofs.Common.{arith}
use Rattle.gx_warnings.proofs.Table_next.{all_added, place_added}
use Rattle.gx_warnings.proofs.table.WarningTable.add_rule.Goals as goal

pub loop-place-preserved : goal.loop-place-preserved
loop-place-preserved c =
    place_added c.args.rule c.args.self.now.entries.entries c.loop-place.place c.args.list.now.items c.loop-place.list.items c.add_place.new.list.items
    (omega (arith, c.len-place-end.ensures.len, c.loop-place-test.true)) c.loop-place.invariant c.in_ok-add_place.ensures

pub returns : goal.returns
returns c =
    all_added c.args.rule c.args.self.now.entries.entries c.loop-place.place c.args.list.now.items c.loop-place.list.items (omega (arith, c.len-place-end.ensures.len, c.loop-place-test.false))
    c.loop-place.invariant
