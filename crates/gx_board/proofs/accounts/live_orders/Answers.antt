use Rattle.std.proofs.{Common.{◌≡◌, ◌∙◌, ◌≤◌, ap, length, List, subst, sum_by, true}, lemmas.List.take_all}
use Rattle.gx_policy.specs.{declared.policy.{PolicyData.PolicyData, User.User}, Soundness.is_sound}
use Rattle.gx_history.specs.Live.{live}
use Rattle.gx_overview.specs.Accounts.{capped_count}
use Rattle.gx_board.specs.Accounts.{orders_of_trader}
use Rattle.gx_board.proofs.LiveOrders_call.{traders_orders}
use Rattle.gx_board.proofs.accounts.live_orders.Goals as goal

-- all users are counted, and their orders are the account's
pub returns : goal.returns
returns g c =
    let policy = (g.G.AccessGate.state c.args.gate.now).policy in
    let records = (g.G.AccessGate.state c.args.gate.now).records in
    let sound : is_sound policy ≡ true = subst (λ (p : PolicyData). is_sound p ≡ true) c.policy.ensures c.rules.ensures.sound in
    let seen : length policy.users ≤ c.loop-user.user-index =
    subst (λ (users : List User). length users ≤ c.loop-user.user-index) (c.users-user-items.ensures ∙ ap (λ (p : PolicyData). p.users) c.policy-2.ensures) c.loop-user-test.false
    in
    c.loop-user.invariant
    ∙ ap (λ (users : List User). capped_count (sum_by (orders_of_trader (live policy records) c.args.account) users)) (take_all c.loop-user.user-index policy.users seen)
    ∙ ap capped_count (traders_orders c.args.account sound c.is_legal.ensures.legal)
