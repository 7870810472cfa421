use Rattle.gx_gate_state.proofs.EndedOrders_call.{one_more_closed}
use Rattle.gx_gate_state.proofs.ends.close_each.Goals as goal

pub loop-order-preserved : goal.loop-order-preserved
loop-order-preserved c = (
  tt,
  tt,
  one_more_closed c.args.ending c.loop-order.order-iterator c.next.new.self c.in-Some.order.now c.args.ledger.now c.loop-order.ledger c.close.new.self c.in-Some.ensures.steps c.loop-order.invariant.2 c.close.ensures.closed,
)
