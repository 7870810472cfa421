use Rattle.std.proofs.Common.{rules, ◌∙◌, sym}
use Rattle.gx_slab.proofs.Order_found.{no_place, no_row, other_row, this_row}
use Rattle.gx_slab.proofs.places.place_of.Goals as goal

pub returns-in_err-place : goal.returns-in_err-place
returns-in_err-place c = c.from_residual.ensures ∙ no_place c.args.places.now c.args.rows.now c.args.number c.requires.placed (sym c.noted.ensures ∙ c.in_err-place.was)

pub returns-in_err-order : goal.returns-in_err-order
returns-in_err-order c =
    c.from_residual-in_err-order.ensures
    ∙ no_row c.args.places.now c.args.rows.now c.args.number c.in_ok-place.place c.requires.placed (sym c.noted.ensures ∙ c.in_ok-place.was) (search rules)

pub returns-then-order-number : goal.returns-then-order-number
returns-then-order-number c = this_row c.args.places.now c.args.rows.now c.args.number c.in_ok-place.place c.in_ok-order.order.now c.requires.placed (search rules) (search rules)

pub returns-else-is_open : goal.returns-else-is_open
returns-else-is_open c = other_row c.args.places.now c.args.rows.now c.args.number c.in_ok-place.place c.in_ok-order.order.now c.requires.placed (sym c.noted.ensures ∙ c.in_ok-place.was) (search rules) (search rules)
