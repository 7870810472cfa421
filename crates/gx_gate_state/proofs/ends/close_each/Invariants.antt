use Rattle.gx_gate_state.proofs.EndedOrders_call.{HaveClosed}
use Rattle.gx_gate_state.proofs.ends.close_each.Given as goal

-- the orders before what is left have been closed
abbrev pub invariant-loop-order : goal.invariant-loop-order
invariant-loop-order l =
    (goal.iterator-loop-order).can_next l.order-iterator ×
    (goal.iterator-loop-order).is_finite l.order-iterator ×
    HaveClosed l.fn.ending l.order-iterator l.fn.ledger l.ledger
