use Rattle.std.proofs.Common.{◌∙◌, ap}
use Rattle.gx_history.specs.declared.report.Message.{Message}
use Rattle.gx_streams.specs.{Kept.with_reserved_last, Streams.on_list_of}
use Rattle.gx_gate_state.specs.Ends.{end_report}
use Rattle.gx_gate_state.proofs.EndedOrders_call.{next_told}
use Rattle.gx_gate_state.proofs.ends.tell_each.Goals as goal

pub loop-order-preserved : goal.loop-order-preserved
loop-order-preserved c =
    let told =
    next_told (end_report c.args.moment) c.in-Some.order.now c.next.new.self c.loop-order.order-iterator c.loop-order.streams c.append_reserved.new.self _
    c.in-Some.ensures.steps
    (c.append_reserved.ensures ∙ ap (λ (message : Message). on_list_of c.in-Some.order.now.user (with_reserved_last (record { timestamp = c.args.moment; message = message })) c.loop-order.streams) c.ended.ensures)
    c.loop-order.invariant.2 c.loop-order.invariant.3 in
    (tt, tt, told.0, told.1)
