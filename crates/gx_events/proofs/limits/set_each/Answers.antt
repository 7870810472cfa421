use Rattle.std.proofs.{Common.{◌∙◌, ◌<◌, ap, arith, length, set}, lemmas.List.{get_or_default, Edits.map_over_more}}
use Rattle.gx_events.specs.Known.{limit_set}
use Rattle.gx_events.proofs.limits.set_each.Goals as goal

pub loop-held-preserved : goal.loop-held-preserved
loop-held-preserved c =
    let ys = c.loop-held.limits in
    let i = c.loop-held.held-index in
    let within : i < length c.args.limits.now = omega (arith, c.loop-held-test.true) in
    let inside : i < length ys = omega (arith, c.loop-held-test.true, c.loop-held.auto.limits) in
    ap (set ys i) c.set.ensures
    ∙ map_over_more (limit_set c.args.name c.args.limit) c.args.limits.now ys i _ within c.loop-held.invariant (get_or_default ys i _ _ inside)
