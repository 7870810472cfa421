use Rattle.gx_peaks.proofs.Table_next.{noted_under}
use Rattle.gx_peaks.proofs.table.PeakTable.note_under.Goals as goal
use Rattle.gx_units.proofs.Results_hold.{ok_then}

pub returns : goal.returns
returns g c = record {
  noted =
      ok_then c.note.result
      (noted_under c.args.rule.now c.args.account c.args.side c.args.self.now c.note.new.self) c.note.ensures.noted;
}
