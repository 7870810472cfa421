use Rattle.std.proofs.{Common.{[], ◌∷◌, ◌++◌, ap, ◌∙◌}, lemmas.List.drop_more, Math.ListN.drop_of_length-le}
use Rattle.gx_operator.specs.declared.asked.ClientRequest.{ClientRequest}
use Rattle.gx_operator.proofs.Kills_next.{none_left, one_more}
use Rattle.gx_operator.proofs.asked.kills_of.Goals as goal

pub loop-account-preserved : goal.loop-account-preserved
loop-account-preserved c =
    one_more c.loop-account.next _ _ _ _ c.loop-account.kills.items _ _
    (drop_more c.args.accounts.now c.loop-account.account-index _ c.loop-account-test.true)
    (c.in_ok-push.ensures.items ∙ ap (λ (kill : ClientRequest). c.loop-account.kills.items ++ kill ∷ []) c.kill_of.ensures)
    c.saturating_add-next.ensures c.loop-account.invariant

pub returns : goal.returns
returns c = none_left c.loop-account.next _ _ _ (drop_of_length-le c.args.accounts.now c.loop-account-test.false) c.loop-account.invariant
