use Rattle.std.proofs.Common.{◌++◌, ◌∙◌, ap}
use Rattle.gx_history.specs.declared.record.RecordData.{RecordData}
use Rattle.gx_text.specs.declared.form.Form.{Form}
use Rattle.gx_events.specs.{Known.known_next, Lines.record_lines}
use Rattle.gx_events.proofs.Lines_next.{known_further, lines_further}
use Rattle.gx_events.proofs.event_log.EventLog.tell.Goals as goal

pub loop-record-preserved : goal.loop-record-preserved
loop-record-preserved c =
    let now = c.loop-record.next.known in
    let text = c.loop-record.text.items in
    let same = c.content-content.ensures.same ∙ c.record-item.is in
    record {
      known = λ policy before first.
          known_further policy before c.args.records.now c.loop-record.record-index c.record-item.result _ _ c.loop-record-test.true
          (c.loop-record.invariant.known policy before first)
          (c.note.ensures.known ∙ ap (known_next now) same);
      lines = λ policy before first.
          lines_further c.in_ok-next.next.form policy before c.args.records.now c.loop-record.record-index c.record-item.result now text _ c.loop-record-test.true
          (c.loop-record.invariant.known policy before first)
          (c.loop-record.invariant.lines policy before first)
          (c.in_ok-append_lines.ensures
          ∙ ap (λ (form : Form). text ++ record_lines form now c.content-content.result) c.loop-record.invariant.form
          ∙ ap (λ (r : RecordData). text ++ record_lines c.in_ok-next.next.form now r) same);
      form = c.note.ensures.form ∙ c.loop-record.invariant.form;
    }
