use Rattle.std.proofs.Common.{◌∙◌, ap, List}
use Rattle.std.specs.Prelude.{slice_get}
use Rattle.gx_history.specs.declared.live_order.LiveOrder.{LiveOrder}
use Rattle.gx_slab.specs.Slabs.{first_waiting, is_waiting}
use Rattle.gx_slab.proofs.Order_found.{found_first, found_open}
use Rattle.gx_slab.proofs.table.Table.first_waiting.Goals as goal

pub returns : goal.returns
returns c =
    c.row.ensures
    ∙ ap (λ (rows : List LiveOrder). slice_get rows c.self.inside.first) c.deref.ensures.value
    ∙ ap (slice_get c.self.inside.rows.items) c.self.invariant.at_first
    ∙ found_first is_waiting c.self.inside.rows.items
    ∙ found_open (λ (o : LiveOrder). o.waits) c.self.inside.rows.items
    ∙ ap first_waiting c.self.view_is
