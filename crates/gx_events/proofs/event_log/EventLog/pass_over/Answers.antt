use Rattle.std.proofs.Common.{◌∙◌, ap}
use Rattle.gx_events.specs.Known.{known_next}
use Rattle.gx_events.proofs.Lines_next.{known_further}
use Rattle.gx_events.proofs.event_log.EventLog.pass_over.Goals as goal

pub loop-record-preserved : goal.loop-record-preserved
loop-record-preserved c = record {
  known = λ policy before first.
      known_further policy before c.args.records.now c.loop-record.record-index c.record-item.result _ _ c.loop-record-test.true
      (c.loop-record.invariant.known policy before first)
      (c.note.ensures.known ∙ ap (known_next c.loop-record.self.known) (c.content.ensures.same ∙ c.record-item.is));
  form = c.note.ensures.form ∙ c.loop-record.invariant.form;
}
