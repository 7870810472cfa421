use Rattle.std.proofs.{Common.{◌++◌, ◌∷◌, [], ◌∙◌, ap, List, arith, rules}, lemmas.List.Sums.{count_by-le-length, length-filter}}
use Rattle.gx_history.specs.declared.live_order.LiveOrder.{LiveOrder}
use Rattle.gx_slab.specs.Slabs.{first_place, is_open, live_numbered}
use Rattle.gx_slab.proofs.Order_put.{pushed}
use Rattle.gx_slab.proofs.table.Table.push.Goals as goal

pub overflow_add-self : goal.overflow_add-self
overflow_add-self c =
    omega (arith, c.self.invariant.counted, length-filter is_open c.self.inside.rows.items, count_by-le-length is_open c.self.inside.rows.items, c.self.inside.rows.ok, c.self.inside.rows.small)

pub invariant_of-self-2 : goal.invariant_of-self-2
invariant_of-self-2 c =
    pushed c.self.inside.places.items c.make_room.new.places.items c.self.inside.rows.items c.push_reserved.new.self.items c.args.order c.self.inside.live c.self.inside.first c.len.result c.first_place-self-inside.result
    c.self.invariant c.in_ok-make_room.ensures.ok c.requires.lives
    (ap (λ (live : List LiveOrder). live_numbered live c.args.order.number) c.self.view_is ∙ c.requires.fresh)
    (c.push_reserved.ensures.items ∙ ap (λ (xs : List LiveOrder). xs ++ c.args.order ∷ []) c.reserve.ensures.items)
    (search (rules, c.reserve.ensures.items))
    (c.first_place-self-inside.ensures ∙ ap first_place c.deref.ensures.value)
