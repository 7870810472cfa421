use Rattle.std.proofs.Common.{refl, subst}
use Rattle.gx_history.specs.declared.record.RecordData.{RecordData}
use Rattle.gx_pass.specs.{Views.{keeper_view_of, line_in}, Rules.MayNote}
use Rattle.gx_pass.proofs.{Rule_kept.notes, Table_word.one_word}
use Rattle.gx_pass.proofs.keeper.append.Goals as goal

pub fetch_add-requires : goal.fetch_add-requires
fetch_add-requires g c =
    let r = c.requires in
    let m = c.args.seat.now.me in
    let may : MayNote (keeper_view_of m.0).entered (line_in g.E.RecordName.entry) = subst (λ (x : RecordData). MayNote (keeper_view_of m.0).entered (line_in x)) r.entry r.line in
    (r.own.0, one_word c.args.board.now.shared.table_id c.args.board.now.shared.table_id refl r.own.1, notes c.args.board.now.shared.table_id.slots c.args.seat.now.id m (keeper_view_of m.0) g.E.RecordName.entry r.keeper may r.room)
