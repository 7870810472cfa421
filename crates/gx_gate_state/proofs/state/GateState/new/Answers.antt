use Rattle.std.proofs.{Common.{refl, List, sym}, Math.Path.subst}
use Rattle.gx_history.specs.declared.live_order.LiveOrder.{LiveOrder}
use Rattle.gx_gate_state.specs.State.{HaveEnough}
use Rattle.gx_gate_state.proofs.{State_first.begin, Reserved_next.kept_at_first}
use Rattle.gx_gate_state.proofs.state.GateState.new.Goals as goal

pub returns-clause-in_force : goal.returns-clause-in_force
returns-clause-in_force c =
    let told = c.in-Ok.telling in
    let set = c.in-Ok-first_settings.settings in
    let traded = c.in_ok-trading.trading in
    begin told.people set.rules set.status traded.orders traded.book traded.ledger told.streams
    c.in-Ok.ensures.people c.in-Ok-first_settings.ensures.rules c.in-Ok-first_settings.ensures.status c.in_ok-trading.ensures.live c.in_ok-trading.ensures.used
    c.in_ok-trading.ensures.book c.in_ok-trading.ensures.ledger c.in-Ok.ensures.shown c.in-Ok.ensures.sent

pub returns-clause-kept : goal.returns-clause-kept
returns-clause-kept c =
    let told = c.in-Ok.telling in
    kept_at_first _ told.streams (returns-clause-in_force c) (λ user. refl)
    (subst (λ (live : List LiveOrder). HaveEnough live told.people c.args.policy.now told.streams c.args.policy.now.users) (sym c.in_ok-trading.ensures.live) c.in-Ok.ensures.enough)
