use Rattle.std.proofs.Common.{◌∙◌, ◌∷◌, [], ◌++◌, ◌<◌, arith, length}
use Rattle.gx_ledger.specs.Tallies.{new_group}
use Rattle.gx_ledger.proofs.Lists_changed.{same_more}
use Rattle.gx_ledger.proofs.groups.Groups.each.Goals as goal

pub loop-account-preserved : goal.loop-account-preserved
loop-account-preserved c =
    let within : c.loop-account._account-index < length c.args.accounts.now = omega (arith, c.loop-account-test.true) in
    c.in_ok-push.ensures.items
    ∙ (λ i. c.loop-account.invariant i ++ c.in_ok-new.ensures i ∷ [])
    ∙ same_more (new_group c.args.asks c.args.stocks.now) c.args.accounts.now c.loop-account._account-index within
