use Rattle.std.proofs.Common.{refl, ap, ◌∙◌, arith}
use Rattle.std.specs.Prelude.{is_some}
use Rattle.gx_history.specs.declared.moves.Move.{Move}
use Rattle.gx_orders.specs.LiveOrders.{OrdersData, live_numbered}
use Rattle.gx_orders.proofs.Orders_found.{finds_orders}
use Rattle.gx_laws.proofs.Moves_known.{may_do}
use Rattle.gx_gate_state.proofs.{State_next.{day_so, takes_so}, Reserved_next.{known_told, match_keeps}, Match_next.{IsMatched, comes_last, is_matched, rest_goes_on}}
use Rattle.gx_gate_state.proofs.matching.apply_rest.Goals as goal

pub order_numbered-order-requires : goal.order_numbered-order-requires
order_numbered-order-requires c = record {
  lives = let t = takes_so c.args.next.moves.now (Move.Rests c.args.number) c.args.next.data.now c.args.state.now c.requires.rests c.requires.takes in
      ap (λ (d : OrdersData). is_some (live_numbered d.live c.args.number)) t.in_force.orders ∙ ap is_some (finds_orders c.args.next.policy.now c.args.next.history.now.records c.args.next.data.now (Move.Rests c.args.number) t.does).is_found;
}

pub rest-requires : goal.rest-requires
rest-requires c = record { latest = comes_last c.args.next.data.now c.args.state.now c.args.number c.order_numbered-order.result (takes_so c.args.next.moves.now (Move.Rests c.args.number) c.args.next.data.now c.args.state.now c.requires.rests c.requires.takes) c.order_numbered-order.ensures.found }

pub returns-clause-ok : goal.returns-clause-ok
returns-clause-ok c =
    rest_goes_on c.args.next.data.now c.args.state.now _ c.args.number c.order_numbered-order.result (takes_so c.args.next.moves.now (Move.Rests c.args.number) c.args.next.data.now c.args.state.now c.requires.rests c.requires.takes) c.order_numbered-order.ensures.found
    refl refl (day_so c.args.next.data.now c.args.next.moves.now (Move.Rests c.args.number) c.args.state.now.status _ c.requires.rests c.apply.ensures)
    (λ i. record { live = c.rest-2.ensures.live i; used = c.rest-2.ensures.used i }) c.in_ok-rest.ensures.ok refl refl

pub returns-clause-kept_after : goal.returns-clause-kept_after
returns-clause-kept_after c =
    let t = takes_so c.args.next.moves.now (Move.Rests c.args.number) c.args.next.data.now c.args.state.now c.requires.rests c.requires.takes in
    let matches : IsMatched c.args.next.policy.now c.args.next.history.now.records c.args.next.data.now = is_matched c.args.next.data.now (Move.Rests c.args.number) t.does (may_do c.args.next.data.now (Move.Rests c.args.number) t.does).is_match in
    match_keeps matches.handed c.args.next.data.now c.args.state.now.streams _ t.does.legal matches.left
    (known_told c.args.state.now t.in_force)
    (known_told _ (returns-clause-ok c))
    (λ user. omega arith)
    c.requires.kept
