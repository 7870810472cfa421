use Rattle.std.proofs.{Common.{sym, arith}, lemmas.Option.get_or_from_slice_get}
use Rattle.gx_activity.proofs.Denials_next.{denials_further}
use Rattle.gx_activity.proofs.denials.count_all.Goals as goal

pub loop-place-preserved : goal.loop-place-preserved
loop-place-preserved c =
    denials_further c.args.policy.now c.args.records.now c.loop-place.place c.at.result c.at.result c.loop-place.table.entries c.count_in.new.table.entries (omega (arith, c.loop-place-test.true, c.len-place-end.ensures)) (sym (get_or_from_slice_get c.args.records.now c.loop-place.place c.at.result c.at.result c.at.ensures))
    c.loop-place.invariant c.in_ok-count_in.ensures.counted
