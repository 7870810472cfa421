use Rattle.std.proofs.{Common.{refl, sym, ap, ◌∙◌, ◌∷◌, [], ◌++◌}, Math.Path.subst}
use Rattle.std.specs.Prelude.{Some}
use Rattle.gx_history.specs.declared.moves.Move.{Move}
use Rattle.gx_orders.specs.{Laws.MakesPlace, LiveOrders.{OrdersData, without_number}}
use Rattle.gx_orders.proofs.Orders_found.{finds_orders}
use Rattle.gx_streams.specs.Laws.{TellsOne}
use Rattle.gx_ledger.proofs.EndedOrders_followed.{ended_then_accepted}
use Rattle.gx_gate_state.proofs.{State_next.{day_so, has_place, one_goes_on, replace_tells, takes_so}, Ledger_next.replace_figured, Room_bounds.telling_keeps_room}
use Rattle.gx_gate_state.proofs.apply.apply_replace.Goals as goal

pub enter-requires-clause-has_shares : goal.enter-requires-clause-has_shares
enter-requires-clause-has_shares c = (let t = takes_so c.args.next.moves.now (Move.Replaces c.args.old.now c.args.new.now) c.args.next.data.now c.args.state.now c.requires.replaces c.requires.takes in subst (λ (d : OrdersData). MakesPlace d c.args.old.now c.args.new.now) (sym t.in_force.orders) (finds_orders c.args.next.policy.now c.args.next.history.now.records c.args.next.data.now (Move.Replaces c.args.old.now c.args.new.now) t.does)).is_new.has_shares

pub enter-requires-clause-waits : goal.enter-requires-clause-waits
enter-requires-clause-waits c = (let t = takes_so c.args.next.moves.now (Move.Replaces c.args.old.now c.args.new.now) c.args.next.data.now c.args.state.now c.requires.replaces c.requires.takes in subst (λ (d : OrdersData). MakesPlace d c.args.old.now c.args.new.now) (sym t.in_force.orders) (finds_orders c.args.next.policy.now c.args.next.history.now.records c.args.next.data.now (Move.Replaces c.args.old.now c.args.new.now) t.does)).is_new.waits

pub enter-requires-clause-last : goal.enter-requires-clause-last
enter-requires-clause-last c = (let t = takes_so c.args.next.moves.now (Move.Replaces c.args.old.now c.args.new.now) c.args.next.data.now c.args.state.now c.requires.replaces c.requires.takes in subst (λ (d : OrdersData). MakesPlace d c.args.old.now c.args.new.now) (sym t.in_force.orders) (finds_orders c.args.next.policy.now c.args.next.history.now.records c.args.next.data.now (Move.Replaces c.args.old.now c.args.new.now) t.does)).is_new.comes_last

pub enter-requires-clause-new : goal.enter-requires-clause-new
enter-requires-clause-new c = (let t = takes_so c.args.next.moves.now (Move.Replaces c.args.old.now c.args.new.now) c.args.next.data.now c.args.state.now c.requires.replaces c.requires.takes in subst (λ (d : OrdersData). MakesPlace d c.args.old.now c.args.new.now) (sym t.in_force.orders) (finds_orders c.args.next.policy.now c.args.next.history.now.records c.args.next.data.now (Move.Replaces c.args.old.now c.args.new.now) t.does)).is_new.is_unused

pub tell-requires : goal.tell-requires
tell-requires c =
    has_place c.args.next.policy.now c.args.next.history.now.records c.args.next.data.now c.args.state.now.streams c.args.old.now.user _ c.requires.places (replace_tells c.args.next.data.now c.args.old.now c.args.new.now (takes_so c.args.next.moves.now (Move.Replaces c.args.old.now c.args.new.now) c.args.next.data.now c.args.state.now c.requires.replaces c.requires.takes).does)

pub returns-clause-ok : goal.returns-clause-ok
returns-clause-ok c =
    let t = takes_so c.args.next.moves.now (Move.Replaces c.args.old.now c.args.new.now) c.args.next.data.now c.args.state.now c.requires.replaces c.requires.takes in
    one_goes_on (Move.Replaces c.args.old.now c.args.new.now) c.args.next.data.now c.args.state.now _ c.args.old.now.user (Some c.replaced-message.result) t
    (subst (TellsOne c.args.next.policy.now c.args.next.history.now.records (c.args.next.history.now.records ++ c.args.next.data.now ∷ []) c.args.next.data.now c.args.old.now.user) (sym c.replaced-message.ensures) (replace_tells c.args.next.data.now c.args.old.now c.args.new.now t.does))
    refl refl refl (day_so c.args.next.data.now c.args.next.moves.now (Move.Replaces c.args.old.now c.args.new.now) c.args.state.now.status _ c.requires.replaces c.apply.ensures)
    (λ i. record { live = (c.end.ensures.live ∙ ap (without_number c.args.old.now.number) c.in_ok-enter.ensures.live) i; used = (c.end.ensures.used ∙ c.in_ok-enter.ensures.used) i }) c.remove.ensures.removed
    (replace_figured c.args.next.data.now c.args.old.now c.args.new.now c.args.state.now _ t
    (ended_then_accepted c.args.old.now c.args.new.now c.args.next.data.now.moment c.args.state.now.ledger c.close.new.self c.accept.new.self c.close.ensures.closed c.accept.ensures.accepted)) c.tell.ensures

pub returns-clause-room : goal.returns-clause-room
returns-clause-room c =
    telling_keeps_room c.args.state.now.streams c.tell.new.streams c.args.old.now.user c.args.next.data.now.moment (Some c.replaced-message.result) c.tell.ensures
