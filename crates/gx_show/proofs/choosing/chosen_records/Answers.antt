use Rattle.std.proofs.Common.{◌∙◌, sym, ap, arith, ◌≡◌, get_or, [], ◌∷◌, ◌++◌, cond}
use Rattle.gx_history.specs.declared.record.RecordData.{RecordData}
use Rattle.gx_show.proofs.{KnownOrders_next.known_none, ChosenRecords_next.{chosen_more, chosen_none, known_more}}
use Rattle.gx_show.proofs.choosing.chosen_records.Goals as goal

pub loop-record-init : goal.loop-record-init
loop-record-init c = record {
  known = c.new-known.ensures ∙ sym (known_none c.args.policy.now);
  found = c.new-found.ensures.items ∙ sym (chosen_none c.args.policy.now c.args.choice.now);
}

pub loop-record-preserved : goal.loop-record-preserved
loop-record-preserved c =
    let at : c.content-shown.result ≡ get_or c.args.records.now c.loop-record.record-index c.record-item.result = c.content-shown.ensures.same ∙ c.record-item.is in
    record {
      known =
          known_more c.args.policy.now c.args.records.now c.loop-record.record-index c.content-shown.result c.record-item.result c.loop-record.known c.note.new.known (omega arith) at
          c.loop-record.invariant.known c.in_ok-note.ensures;
      found =
          chosen_more c.args.policy.now c.args.choice.now c.args.records.now c.loop-record.record-index c.content-shown.result c.record-item.result c.loop-record.known c.is_asked_for-is_wanted.result
          c.loop-record.found.items c.keep.new.found.items (omega arith) at c.loop-record.invariant.known c.loop-record.invariant.found c.is_asked_for-is_wanted.ensures
          (c.in_ok-keep.ensures ∙ ap (λ (r : RecordData). c.loop-record.found.items ++ cond c.is_asked_for-is_wanted.result (r ∷ []) []) (sym c.content-shown.ensures.same));
    }
