use Rattle.std.proofs.{Common.{sym, ◌∙◌, List, ap, arith}, lemmas.{List.take_all, Option.get_or_from_slice_get}}
use Rattle.std.specs.Prelude.{Some}
use Rattle.gx_history.specs.declared.record.RecordData.{RecordData}
use Rattle.gx_activity.specs.{declared.spans.SpanRow.SpanRow, Spanning.span_so_far}
use Rattle.gx_activity.proofs.Spans_next.{span_fits, span_further}
use Rattle.gx_activity.proofs.spans.note_all.Goals as goal

pub loop-place-preserved : goal.loop-place-preserved
loop-place-preserved c = λ k within.
    c.note.ensures.noted k _ (c.loop-place.invariant k within)
    ∙ ap (λ (row : SpanRow). Some row) (span_further c.args.from c.args.width k c.args.records.now c.loop-place.place c.at.result c.at.result (omega (arith, c.loop-place-test.true, c.len-place-end.ensures)) (sym (get_or_from_slice_get c.args.records.now c.loop-place.place c.at.result c.at.result c.at.ensures)))

pub returns : goal.returns
returns c = record {
  noted = λ k within.
      c.loop-place.invariant k within
      ∙ ap (λ (rs : List RecordData). Some (span_so_far rs c.args.from c.args.width k)) (take_all c.loop-place.place c.args.records.now (omega (arith, c.loop-place-test.false, c.len-place-end.ensures)))
      ∙ ap (λ (row : SpanRow). Some row) (span_fits c.args.from c.args.width k c.args.records.now (omega arith));
}
