use Rattle.std.proofs.Common.{◌≡◌, ◌≤◌, ◌∙◌, ap, sym, subst, ℕ, if◌then◌else◌, set, length, ◌-◌}
use Rattle.std.specs.{Prelude.{None, min}, List.position}
use Rattle.gx_slab.specs.Slabs.{first_place, is_open, stands_for, live_with}
use Rattle.gx_slab.proofs.{Waiting_first.first_written, Order_written.{is_written, nothing_written}}
use Rattle.gx_slab.proofs.table.Table.write.Goals as goal

pub returns-in_default : goal.returns-in_default
returns-in_default c =
    let nowhere : position (stands_for c.args.order.number) c.self.inside.rows.items ≡ None =
    ap (position (stands_for c.args.order.number)) (sym c.deref-2.ensures.value) ∙ sym c.place_of.ensures ∙ c.in_default.is in
    sym c.self.view_is ∙ nothing_written c.self.inside.rows.items c.args.order nowhere ∙ ap (live_with c.args.order) c.self.view_is

pub thin_out-self-inside-requires-clause-placed : goal.thin_out-self-inside-requires-clause-placed
thin_out-self-inside-requires-clause-placed c =
    (is_written c.self.inside.places.items c.self.inside.rows.items c.args.order c.in-Some.place c.self.invariant.placed
    (ap (position (stands_for c.args.order.number)) (sym c.deref-2.ensures.value) ∙ sym c.place_of.ensures ∙ c.in-Some.is)).placed

pub thin_out-self-inside-requires-clause-counted : goal.thin_out-self-inside-requires-clause-counted
thin_out-self-inside-requires-clause-counted c =
    c.count_once_written-self-inside.ensures
    ∙ ap (λ (n : ℕ). if is_open c.args.order then n else n - 1) c.self.invariant.counted
    ∙ (is_written c.self.inside.places.items c.self.inside.rows.items c.args.order c.in-Some.place c.self.invariant.placed
    (ap (position (stands_for c.args.order.number)) (sym c.deref-2.ensures.value) ∙ sym c.place_of.ensures ∙ c.in-Some.is)).counted

pub thin_out-self-inside-requires-clause-ahead : goal.thin_out-self-inside-requires-clause-ahead
thin_out-self-inside-requires-clause-ahead c =
    subst (λ (n : ℕ). n ≤ first_place (set c.self.inside.rows.items c.in-Some.place c.args.order))
    (sym (c.first_once_written-from.ensures ∙ ap (λ (n : ℕ). if c.args.order.waits then min c.in-Some.place n else n) c.self.invariant.at_first))
    (first_written c.self.inside.rows.items c.in-Some.place c.args.order)

pub invariant_of-self : goal.invariant_of-self
invariant_of-self c = record {
  placed = c.thin_out-self-inside.ensures.placed;
  counted =
      c.count_once_written-self-inside.ensures
      ∙ ap (λ (n : ℕ). if is_open c.args.order then n else n - 1) c.self.invariant.counted
      ∙ (is_written c.self.inside.places.items c.self.inside.rows.items c.args.order c.in-Some.place c.self.invariant.placed
      (ap (position (stands_for c.args.order.number)) (sym c.deref-2.ensures.value) ∙ sym c.place_of.ensures ∙ c.in-Some.is)).counted
      ∙ ap length (sym c.thin_out-self-inside.ensures.shown);
  at_first = c.thin_out-self-inside.ensures.first;
  dense = c.thin_out-self-inside.ensures.dense;
}

pub returns : goal.returns
returns c =
    c.thin_out-self-inside.ensures.shown
    ∙ (is_written c.self.inside.places.items c.self.inside.rows.items c.args.order c.in-Some.place c.self.invariant.placed
    (ap (position (stands_for c.args.order.number)) (sym c.deref-2.ensures.value) ∙ sym c.place_of.ensures ∙ c.in-Some.is)).shown
    ∙ ap (live_with c.args.order) c.self.view_is
