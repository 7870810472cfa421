use Rattle.std.proofs.{Common.{sym, arith}, lemmas.Option.get_or_from_slice_get}
use Rattle.gx_overview.proofs.Fills_call.{known_further, noted_further, nothing_known, nothing_noted}
use Rattle.gx_overview.proofs.executed.note_each.Goals as goal

pub loop-place-init : goal.loop-place-init
loop-place-init c = record {
  knows = nothing_known c.args.policy.now c.args.owners.now c.requires.none;
  rows = nothing_noted c.args.policy.now c.args.rows.now;
}

pub loop-place-preserved : goal.loop-place-preserved
loop-place-preserved c = record {
  knows =
      known_further c.args.policy.now c.args.records.now c.loop-place.place c.at.result c.at.result c.loop-place.owners c.note_record.new.owners c.args.rows.now c.loop-place.rows c.note_record.new.rows
      (omega (arith, c.loop-place-test.true, c.len-place-end.ensures)) (sym (get_or_from_slice_get c.args.records.now c.loop-place.place c.at.result c.at.result c.at.ensures)) c.loop-place.invariant.knows c.in_ok-note_record.ensures.noted;
  rows =
      noted_further c.args.policy.now c.args.records.now c.loop-place.place c.at.result c.at.result c.loop-place.owners c.note_record.new.owners c.args.rows.now c.loop-place.rows c.note_record.new.rows
      (omega (arith, c.loop-place-test.true, c.len-place-end.ensures)) (sym (get_or_from_slice_get c.args.records.now c.loop-place.place c.at.result c.at.result c.at.ensures)) c.loop-place.invariant.knows c.in_ok-note_record.ensures.noted c.loop-place.invariant.rows;
}
