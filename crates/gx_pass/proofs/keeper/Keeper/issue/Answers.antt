use Rattle.std.proofs.Common.{◌≡◌, ◌+◌, [], length, sym, ◌∙◌, subst, arith}
use Rattle.gx_pass.specs.{declared.view.{KeeperView.KeeperView, LineView.LineView}, Rules.IsNumbered, Views.{keeper_view_of, line_view_of, line_view, mine, view_of_issued}}
use Rattle.gx_pass.proofs.{Lines_owner.of_line_new, Rule_kept.{looks, issues}, Table_word.one_word}
use Rattle.gx_pass.proofs.keeper.Keeper.issue.Goals as goal

pub load-requires : goal.load-requires
load-requires g c =
    let i = c.self.invariant in
    let own = (λ k. (c.deref.ensures k).shared.table_id) ∙ i.1 in
    let m = c.self.inside.seat.me in
    (i.0 ∙ sym own, one_word _ _ own i.2, looks _ c.self.inside.seat.id m (keeper_view_of m.0) i.3)

pub split_seat-seat-requires : goal.split_seat-seat-requires
split_seat-seat-requires g c =
    let i = c.self.invariant in
    let l = c.load.ensures in
    let own = (λ k. (c.deref-2.ensures k).shared.table_id) ∙ i.1 in
    let m = c.self.inside.seat.me in
    let is = l.2.0 ∙ i.3 in
    (l.0 ∙ (i.0 ∙ sym own), one_word _ _ own i.2, issues c.load.new.seat.id c.load.new.seat.me.0 (keeper_view_of m.0) (λ k. (is k).0))

pub returns-clause-own : goal.returns-clause-own
returns-clause-own g c =
    let l = c.load.ensures in
    let s = c.split_seat-seat.ensures in
    let it = c.args.self.now in
    let is : line_view_of c.split_seat-seat.result.me.0 ≡ line_view (it.issued + 1) it.list (length it.list) =
    (λ k. line_view_of (s.4 k).0) ∙ (λ k. line_view_of (view_of_issued (l.2.0 k).0)) ∙ (λ k. let q = c.self.view_is k in line_view (q.issued + 1) q.list (length q.list)) in
    let numbered : IsNumbered it.issued it.list = subst (λ (q : KeeperView). IsNumbered q.issued q.list) c.self.view_is l.2.1 in
    subst (λ (h : LineView). mine h ≡ []) (sym is) (of_line_new it.issued (it.issued + 1) it.list (omega arith) numbered)
