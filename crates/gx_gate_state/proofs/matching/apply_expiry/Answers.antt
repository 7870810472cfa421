use Rattle.std.proofs.{Common.{ℕ, ap, sym, ◌∙◌}, lemmas.Bool.eqb-true}
use Rattle.std.specs.Prelude.{is_some}
use Rattle.gx_history.specs.declared.moves.Move.{Move}
use Rattle.gx_orders.specs.LiveOrders.{OrdersData, live_numbered}
use Rattle.gx_orders.proofs.Orders_found.{finds_orders}
use Rattle.gx_laws.proofs.LiveOrders_known.{number_found}
use Rattle.gx_gate_state.proofs.State_next.{takes_so}
use Rattle.gx_gate_state.proofs.matching.apply_expiry.Goals as goal

pub order_numbered-order-requires : goal.order_numbered-order-requires
order_numbered-order-requires c = record {
  lives = let t = takes_so c.args.next.moves.now (Move.Expires c.args.number) c.args.next.data.now c.args.state.now c.requires.expires c.requires.takes in
      ap (λ (d : OrdersData). is_some (live_numbered d.live c.args.number)) t.in_force.orders ∙ ap is_some (finds_orders c.args.next.policy.now c.args.next.history.now.records c.args.next.data.now (Move.Expires c.args.number) t.does).is_found;
}

pub reserve_for_expiry-requires-clause-expires : goal.reserve_for_expiry-requires-clause-expires
reserve_for_expiry-requires-clause-expires c = c.requires.expires ∙ ap (λ (n : ℕ). Move.Expires n) (sym (eqb-true c.order_numbered-order.result.number c.args.number (number_found c.args.state.now.orders.live c.args.number c.order_numbered-order.result c.order_numbered-order.ensures.found)))

pub reserve_for_expiry-requires-clause-lives : goal.reserve_for_expiry-requires-clause-lives
reserve_for_expiry-requires-clause-lives c =
    ap (live_numbered c.args.state.now.orders.live) (eqb-true c.order_numbered-order.result.number c.args.number (number_found c.args.state.now.orders.live c.args.number c.order_numbered-order.result c.order_numbered-order.ensures.found)) ∙ c.order_numbered-order.ensures.found

pub end_order-requires-clause-expires : goal.end_order-requires-clause-expires
end_order-requires-clause-expires c = c.requires.expires ∙ ap (λ (n : ℕ). Move.Expires n) (sym (eqb-true c.order_numbered-order.result.number c.args.number (number_found c.args.state.now.orders.live c.args.number c.order_numbered-order.result c.order_numbered-order.ensures.found)))

pub end_order-requires-clause-lives : goal.end_order-requires-clause-lives
end_order-requires-clause-lives c =
    ap (λ (d : OrdersData). live_numbered d.live c.order_numbered-order.result.number) c.in_ok-reserve_for_expiry.ensures.same
    ∙ ap (live_numbered c.args.state.now.orders.live) (eqb-true c.order_numbered-order.result.number c.args.number (number_found c.args.state.now.orders.live c.args.number c.order_numbered-order.result c.order_numbered-order.ensures.found)) ∙ c.order_numbered-order.ensures.found
