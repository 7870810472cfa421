use Rattle.std.proofs.Common.{refl, subst}
use Rattle.gx_pass.specs.{Views.keeper_view_of, Rules.Has}
use Rattle.gx_pass.proofs.{Rule_kept.leaves, Table_word.one_word}
use Rattle.gx_pass.proofs.keeper.part.Goals as goal

pub split_seat-requires : goal.split_seat-requires
split_seat-requires g c =
    let r = c.requires in
    let m = c.args.seat.now.me in
    let has = subst (Has (keeper_view_of m.0).entered) r.line r.entered in
    (r.own.0, one_word c.args.board.now.shared.table_id c.args.board.now.shared.table_id refl r.own.1, leaves c.args.seat.now.id m.0 (keeper_view_of m.0) g.L.LineName.line has (λ k. (r.keeper k).0))
