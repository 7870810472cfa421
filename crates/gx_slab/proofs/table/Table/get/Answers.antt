use Rattle.std.proofs.Common.{◌≡◌, ◌∙◌, ap, sym, List}
use Rattle.std.specs.{Option.option_copied, Prelude.{Some, None, slice_get}, List.position}
use Rattle.gx_history.specs.declared.live_order.LiveOrder.{LiveOrder}
use Rattle.gx_slab.specs.Slabs.{live_numbered, stands_for}
use Rattle.gx_slab.proofs.Order_found.{found_at, found_nowhere}
use Rattle.gx_slab.proofs.table.Table.get.Goals as goal

pub returns-in_err-place : goal.returns-in_err-place
returns-in_err-place c =
    let nowhere : position (stands_for c.args.number) c.self.inside.rows.items ≡ None =
    ap (position (stands_for c.args.number)) (sym c.deref-2.ensures.value) ∙ sym c.place_of.ensures ∙ c.in_err-place.was in
    ap option_copied c.from_residual.ensures
    ∙ sym (found_nowhere c.self.inside.rows.items c.args.number nowhere)
    ∙ ap (λ (live : List LiveOrder). live_numbered live c.args.number) c.self.view_is

pub returns : goal.returns
returns c =
    let there : position (stands_for c.args.number) c.self.inside.rows.items ≡ Some c.in_ok-place.place =
    ap (position (stands_for c.args.number)) (sym c.deref-2.ensures.value) ∙ sym c.place_of.ensures ∙ c.in_ok-place.was in
    c.row.ensures
    ∙ ap (λ (rows : List LiveOrder). slice_get rows c.in_ok-place.place) c.deref-3.ensures.value
    ∙ found_at c.self.inside.rows.items c.args.number c.in_ok-place.place there
    ∙ ap (λ (live : List LiveOrder). live_numbered live c.args.number) c.self.view_is
