use Rattle.std.proofs.Common.{◌∷◌, sym, ◌∙◌}
use Rattle.gx_pass.specs.Views.{keeper_view_of, line_view_of, keeper_view, view_of_meeting}
use Rattle.gx_pass.proofs.{Rule_kept.{enters, meets}, Table_word.one_word}
use Rattle.gx_pass.proofs.keeper.Keeper.enter.Goals as goal

pub join_seat-requires : goal.join_seat-requires
join_seat-requires g c =
    let i = c.self.invariant in
    let p = c.pass.invariant in
    let own = (λ k. (c.deref.ensures k).shared.table_id) ∙ i.1 in
    let m = c.self.inside.seat.me in
    let n = c.pass.inside.seat.me in
    (i.0 ∙ sym own, p.0 ∙ sym own, (λ k. (p.3 k).1), one_word _ _ own i.2, enters c.self.inside.seat.id m.0 (keeper_view_of m.0) c.pass.inside.seat.id n.0 (line_view_of n.0) (λ k. (i.3 k).0) (λ k. (p.3 k).0))

pub load-requires : goal.load-requires
load-requires g c =
    let i = c.self.invariant in
    let j = c.join_seat.ensures in
    let own = (λ k. (c.deref-2.ensures k).shared.table_id) ∙ i.1 in
    let m = c.self.inside.seat.me in
    let h = line_view_of c.pass.inside.seat.me.0 in
    let it = keeper_view_of m.0 in
    (j.0 ∙ i.0 ∙ sym own, one_word _ _ own i.2, meets _ c.join_seat.new.seat.id c.join_seat.new.seat.me (keeper_view it.list (h.line ∷ it.entered) it.issued) h (j.2 ∙ (λ k. (view_of_meeting m.0 c.pass.inside.seat.me.0, (i.3 k).1))))
