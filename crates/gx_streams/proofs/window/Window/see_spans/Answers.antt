use Rattle.std.proofs.Common.{◌∙◌, ap, take}
use Rattle.gx_streams.proofs.Streams_read.{count_is, spans_step}
use Rattle.gx_streams.proofs.window.Window.see_spans.Goals as goal

pub see_span-requires : goal.see_span-requires
see_span-requires c =
    count_is c.args.fills.now c.args.spans.now c.args.current c.loop-i.i _ c.at_most.result.now c.saturating_sub-length.result c.saturating_sub-count.result c.next_span-next.result c.past.result.now
    c.loop-i-test.true c.requires c.past.ensures c.next_span-next.ensures c.saturating_sub-length.ensures c.saturating_sub-count.ensures (c.at_most.ensures ∙ ap (take c.saturating_sub-length.result) c.past-in-loop-i.ensures)

pub loop-i-preserved : goal.loop-i-preserved
loop-i-preserved c =
    spans_step c.args.fills.now c.args.spans.now c.args.current c.loop-i.i _ c.loop-i.self c.see_span.new.self _ c.at_most.result.now c.saturating_sub-length.result c.next_span-next.result c.past.result.now
    c.loop-i-test.true c.past.ensures c.next_span-next.ensures c.saturating_sub-length.ensures (c.at_most.ensures ∙ ap (take c.saturating_sub-length.result) c.past-in-loop-i.ensures) c.in_ok-see_span.ensures c.loop-i.invariant
