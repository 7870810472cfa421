use Rattle.std.proofs.Common.{◌∙◌, ap, sym}
use Rattle.std.specs.Map.{set_value}
use Rattle.gx_units.specs.Names.{same_stock}
use Rattle.gx_ledger.specs.{Changes.Change, Running.{changed_sides, noted_sides}}
use Rattle.gx_ledger.proofs.Entries_changed.{no_sums_set, sums_set}
use Rattle.gx_ledger.proofs.sides.note_change.Goals as goal

pub returns-in-Some : goal.returns-in-Some
returns-in-Some c =
    let change : Change = record { order = c.change.inside.order.now; kind = c.change.inside.kind } in
    let sums = c.args.sums.now.entries in
    (c.get_mut_near.follows.holds c.changed.result).0
    ∙ ap (set_value (same_stock change.order.terms.stock) sums) (c.changed.ensures ∙ ap (λ (so : Change). changed_sides so c.in-Some.found.now) (sym c.change.view_is))
    ∙ sums_set change.order.terms.stock (changed_sides change) sums c.in-Some.found.now c.in-Some.ensures.unique (sym c.in-Some.ensures.value)
    ∙ ap (λ (so : Change). noted_sides so sums) c.change.view_is

pub returns-in_default : goal.returns-in_default
returns-in_default c =
    let change : Change = record { order = c.change.inside.order.now; kind = c.change.inside.kind } in
    let sums = c.args.sums.now.entries in
    ap (λ m. m.entries) c.get_mut_near.follows.holds-at-none
    ∙ no_sums_set change.order.terms.stock (changed_sides change) sums (sym c.in_default.ensures.value)
    ∙ ap (λ (so : Change). noted_sides so sums) c.change.view_is
