use Rattle.std.proofs.{Common.{refl, sym, ◌∷◌, [], ◌++◌}, Math.Path.subst}
use Rattle.std.specs.Prelude.{Some}
use Rattle.gx_history.specs.declared.moves.Move.{Move}
use Rattle.gx_orders.specs.{Laws.IsNewTo, LiveOrders.OrdersData}
use Rattle.gx_orders.proofs.Orders_found.{finds_orders}
use Rattle.gx_streams.specs.Laws.{TellsOne}
use Rattle.gx_gate_state.proofs.{State_next.{day_so, enter_tells, has_place, one_goes_on, takes_so}, Ledger_next.enter_figured, Room_bounds.telling_keeps_room}
use Rattle.gx_gate_state.proofs.apply.apply_enter.Goals as goal

pub enter-requires-clause-has_shares : goal.enter-requires-clause-has_shares
enter-requires-clause-has_shares c = (let t = takes_so c.args.next.moves.now (Move.Adds c.args.new.now) c.args.next.data.now c.args.state.now c.requires.adds c.requires.takes in subst (λ (d : OrdersData). IsNewTo d c.args.new.now) (sym t.in_force.orders) (finds_orders c.args.next.policy.now c.args.next.history.now.records c.args.next.data.now (Move.Adds c.args.new.now) t.does)).has_shares

pub enter-requires-clause-waits : goal.enter-requires-clause-waits
enter-requires-clause-waits c = (let t = takes_so c.args.next.moves.now (Move.Adds c.args.new.now) c.args.next.data.now c.args.state.now c.requires.adds c.requires.takes in subst (λ (d : OrdersData). IsNewTo d c.args.new.now) (sym t.in_force.orders) (finds_orders c.args.next.policy.now c.args.next.history.now.records c.args.next.data.now (Move.Adds c.args.new.now) t.does)).waits

pub enter-requires-clause-last : goal.enter-requires-clause-last
enter-requires-clause-last c = (let t = takes_so c.args.next.moves.now (Move.Adds c.args.new.now) c.args.next.data.now c.args.state.now c.requires.adds c.requires.takes in subst (λ (d : OrdersData). IsNewTo d c.args.new.now) (sym t.in_force.orders) (finds_orders c.args.next.policy.now c.args.next.history.now.records c.args.next.data.now (Move.Adds c.args.new.now) t.does)).comes_last

pub enter-requires-clause-new : goal.enter-requires-clause-new
enter-requires-clause-new c = (let t = takes_so c.args.next.moves.now (Move.Adds c.args.new.now) c.args.next.data.now c.args.state.now c.requires.adds c.requires.takes in subst (λ (d : OrdersData). IsNewTo d c.args.new.now) (sym t.in_force.orders) (finds_orders c.args.next.policy.now c.args.next.history.now.records c.args.next.data.now (Move.Adds c.args.new.now) t.does)).is_unused

pub tell-requires : goal.tell-requires
tell-requires c =
    has_place c.args.next.policy.now c.args.next.history.now.records c.args.next.data.now c.args.state.now.streams c.args.new.now.user _ c.requires.places (enter_tells c.args.next.data.now c.args.new.now (takes_so c.args.next.moves.now (Move.Adds c.args.new.now) c.args.next.data.now c.args.state.now c.requires.adds c.requires.takes).does)

pub returns-clause-ok : goal.returns-clause-ok
returns-clause-ok c =
    let t = takes_so c.args.next.moves.now (Move.Adds c.args.new.now) c.args.next.data.now c.args.state.now c.requires.adds c.requires.takes in
    one_goes_on (Move.Adds c.args.new.now) c.args.next.data.now c.args.state.now _ c.args.new.now.user (Some c.accepted-message.result) t
    (subst (TellsOne c.args.next.policy.now c.args.next.history.now.records (c.args.next.history.now.records ++ c.args.next.data.now ∷ []) c.args.next.data.now c.args.new.now.user) (sym c.accepted-message.ensures) (enter_tells c.args.next.data.now c.args.new.now t.does))
    refl refl refl (day_so c.args.next.data.now c.args.next.moves.now (Move.Adds c.args.new.now) c.args.state.now.status _ c.requires.adds c.apply.ensures) (λ i. record { live = c.in_ok-enter.ensures.live i; used = c.in_ok-enter.ensures.used i }) refl
    (enter_figured c.args.next.data.now c.args.new.now c.args.state.now _ t c.accept.ensures.accepted) c.tell.ensures

pub returns-clause-room : goal.returns-clause-room
returns-clause-room c =
    telling_keeps_room c.args.state.now.streams c.tell.new.streams c.args.new.now.user c.args.next.data.now.moment (Some c.accepted-message.result) c.tell.ensures
