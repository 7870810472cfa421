use Rattle.std.proofs.Common.{◌∙◌, ◌<◌, arith, ap, sym, length}
use Rattle.gx_policy.specs.{declared.policy.FileRule.FileRule, People.covers}
use Rattle.gx_rules.proofs.AccountRules_table.{next_place}
use Rattle.gx_rules.proofs.rule_places.RulePlaces.of.Goals as goal

pub loop-place-preserved : goal.loop-place-preserved
loop-place-preserved c =
    let within : c.loop-place.place < length c.args.rules.now = omega (arith, c.loop-place-test.true) in
    c.in_ok-put_if.ensures
    ∙ next_place c.args.account c.args.rules.now c.loop-place.items.items c.loop-place.place c.index-rules-place.result _ c.covers.result within c.loop-place.invariant (c.covers.ensures ∙ ap (λ (r : FileRule). covers r.scope c.args.account) (sym c.index-rules-place.is)) c.index-rules-place.is
