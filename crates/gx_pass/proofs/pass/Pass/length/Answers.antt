use Rattle.std.proofs.Common.{sym, ◌∙◌}
use Rattle.gx_pass.specs.Views.{line_view_of}
use Rattle.gx_pass.proofs.{Rule_kept.tells, Table_word.one_word}
use Rattle.gx_pass.proofs.pass.Pass.length.Goals as goal

pub load-requires : goal.load-requires
load-requires g c =
    let i = c.self.invariant in
    let own = (λ k. (c.deref.ensures k).shared.table_id) ∙ i.1 in
    (i.0 ∙ sym own, one_word _ _ own i.2, tells _ c.self.inside.seat.id c.self.inside.seat.me (line_view_of c.self.inside.seat.me.0) i.3)
