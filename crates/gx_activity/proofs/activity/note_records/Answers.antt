use Rattle.std.proofs.{Common.{sym, arith, List, ap, ◌∙◌}, lemmas.{List.take_all, Option.get_or_from_slice_get}}
use Rattle.gx_units.specs.declared.names.AccountName.{AccountName}
use Rattle.gx_history.specs.declared.record.RecordData.{RecordData}
use Rattle.gx_activity.specs.{declared.activity.ActivityRow.ActivityRow, Noting.{row_in, so_far}}
use Rattle.gx_overview.proofs.Fills_call.{nothing_known}
use Rattle.gx_activity.proofs.Known_next.{known_further, noted_further, nothing_noted}
use Rattle.gx_activity.proofs.activity.note_records.Goals as goal

pub loop-place-init : goal.loop-place-init
loop-place-init c = record {
  knows = nothing_known c.args.policy.now c.new-owners.result c.new-owners.ensures.none;
  rows = λ a. ap (λ (entries : List (AccountName × ActivityRow)). row_in entries a.name) c.new-table.ensures.empty ∙ nothing_noted c.args.policy.now a;
}

pub loop-place-preserved : goal.loop-place-preserved
loop-place-preserved c = record {
  knows =
      known_further c.args.policy.now c.args.records.now c.loop-place.place c.at.result c.at.result c.loop-place.owners c.note_record.new.owners c.loop-place.table.entries
      c.note_record.new.table.entries (omega (arith, c.loop-place-test.true, c.len-place-end.ensures)) (sym (get_or_from_slice_get c.args.records.now c.loop-place.place c.at.result c.at.result c.at.ensures)) c.loop-place.invariant.knows c.in_ok-note_record.ensures.noted;
  rows =
      noted_further c.args.policy.now c.args.records.now c.loop-place.place c.at.result c.at.result c.loop-place.owners c.note_record.new.owners c.loop-place.table.entries
      c.note_record.new.table.entries (omega (arith, c.loop-place-test.true, c.len-place-end.ensures)) (sym (get_or_from_slice_get c.args.records.now c.loop-place.place c.at.result c.at.result c.at.ensures)) c.loop-place.invariant.knows c.in_ok-note_record.ensures.noted c.loop-place.invariant.rows;
}

pub returns : goal.returns
returns c = record {
  noted = λ a.
      c.loop-place.invariant.rows a
      ∙ ap (λ (rs : List RecordData). so_far c.args.policy.now rs a) (take_all c.loop-place.place c.args.records.now (omega (arith, c.loop-place-test.false, c.len-place-end.ensures)));
}
