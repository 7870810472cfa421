use Rattle.std.proofs.Common.{◌≡◌, ◌≤◌, ◌+◌, ◌*◌, ◌∙◌, ap, sym, subst, ℕ, List, set, length-set}
use Rattle.std.specs.{Option.option_map_or, Prelude.{None}, List.position}
use Rattle.gx_history.specs.declared.live_order.LiveOrder.{LiveOrder}
use Rattle.gx_slab.specs.Slabs.{at_rest, first_place, live_numbered, stands_for, live_with}
use Rattle.gx_slab.proofs.{Waiting_first.first_written, Order_written.{IsRested, is_rested, none_rested}}
use Rattle.gx_slab.proofs.table.Table.rest.Goals as goal

pub returns-in_default : goal.returns-in_default
returns-in_default c =
    let nowhere : position (stands_for c.args.number) c.self.inside.rows.items ≡ None =
    ap (position (stands_for c.args.number)) (sym c.deref-2.ensures.value) ∙ sym c.place_of.ensures ∙ c.in_default.is in
    sym c.self.view_is
    ∙ none_rested c.self.inside.rows.items c.args.number nowhere
    ∙ ap (λ (live : List LiveOrder). option_map_or (λ (o : LiveOrder). live_with (at_rest o) live) (live_numbered live c.args.number) live) c.self.view_is

rested : (c : goal.After-self-2-1) → IsRested c.self.inside.places.items c.self.inside.rows.items c.args.number c.index_mut.result.now c.in-Some.place
rested c =
    is_rested c.self.inside.places.items c.self.inside.rows.items c.args.number c.index_mut.result.now c.in-Some.place c.self.invariant.placed
    (ap (position (stands_for c.args.number)) (sym c.deref-2.ensures.value) ∙ sym c.place_of.ensures ∙ c.in-Some.is) c.index_mut.ensures.value

pub first_place-self-inside-requires : goal.first_place-self-inside-requires
first_place-self-inside-requires c =
    subst (λ (rows : List LiveOrder). c.self.inside.first ≤ first_place rows) (sym c.deref-3.ensures.value)
    (subst (λ (n : ℕ). n ≤ first_place (set c.self.inside.rows.items c.in-Some.place (at_rest c.index_mut.result.now)))
    (sym c.self.invariant.at_first) (first_written c.self.inside.rows.items c.in-Some.place (at_rest c.index_mut.result.now)))

pub invariant_of-self : goal.invariant_of-self
invariant_of-self c = record {
  placed = (rested c).placed;
  counted = c.self.invariant.counted ∙ (rested c).counted;
  at_first = c.first_place-self-inside.ensures ∙ ap first_place c.deref-3.ensures.value;
  dense = subst (λ (n : ℕ). n ≤ 2 * c.self.inside.live + 32) (sym (length-set c.self.inside.rows.items c.in-Some.place (at_rest c.index_mut.result.now))) c.self.invariant.dense;
}

pub returns : goal.returns
returns c =
    (rested c).shown
    ∙ ap (λ (live : List LiveOrder). option_map_or (λ (o : LiveOrder). live_with (at_rest o) live) (live_numbered live c.args.number) live) c.self.view_is
