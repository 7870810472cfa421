use Rattle.std.proofs.{Common.{refl, sym}, Math.Path.subst}
use Rattle.gx_history.specs.declared.moves.Move.{Move}
use Rattle.gx_orders.specs.{Changes.IsUnused, LiveOrders.OrdersData}
use Rattle.gx_orders.proofs.Orders_found.{finds_orders}
use Rattle.gx_gate_state.proofs.{State_next.{day_so, denial_tells, denied_place, one_goes_on, takes_so}, Ledger_next.quiet_figured, Room_bounds.telling_keeps_room}
use Rattle.gx_gate_state.proofs.apply.apply_denial.Goals as goal

pub deny-requires : goal.deny-requires
deny-requires c = record {
  new = let t = takes_so c.args.next.moves.now (Move.Denies c.args.a.now c.args.rule) c.args.next.data.now c.args.state.now c.requires.denies c.requires.takes in
      subst (λ (d : OrdersData). IsUnused d.used c.args.a.now c.args.rule) (sym t.in_force.orders) (finds_orders c.args.next.policy.now c.args.next.history.now.records c.args.next.data.now (Move.Denies c.args.a.now c.args.rule) t.does);
}

pub tell-requires : goal.tell-requires
tell-requires c =
    denied_place c.args.a.now c.args.next.data.now c.args.rule c.args.state.now c.reports_of_denial-message.result
    (takes_so c.args.next.moves.now (Move.Denies c.args.a.now c.args.rule) c.args.next.data.now c.args.state.now c.requires.denies c.requires.takes) c.requires.places c.reports_of_denial-message.ensures

pub returns-clause-ok : goal.returns-clause-ok
returns-clause-ok c =
    let t = takes_so c.args.next.moves.now (Move.Denies c.args.a.now c.args.rule) c.args.next.data.now c.args.state.now c.requires.denies c.requires.takes in
    one_goes_on (Move.Denies c.args.a.now c.args.rule) c.args.next.data.now c.args.state.now _ c.args.a.now.user c.reports_of_denial-message.result t
    (denial_tells c.args.a.now c.args.next.data.now c.args.rule c.reports_of_denial-message.result t.does c.reports_of_denial-message.ensures)
    refl refl refl (day_so c.args.next.data.now c.args.next.moves.now (Move.Denies c.args.a.now c.args.rule) c.args.state.now.status _ c.requires.denies c.apply.ensures) c.in_ok-deny.ensures.ok refl
    (quiet_figured (Move.Denies c.args.a.now c.args.rule) c.args.next.data.now c.args.state.now _ t tt refl) c.tell.ensures

pub returns-clause-room : goal.returns-clause-room
returns-clause-room c =
    telling_keeps_room c.args.state.now.streams c.tell.new.streams c.args.a.now.user c.args.next.data.now.moment c.reports_of_denial-message.result c.tell.ensures
