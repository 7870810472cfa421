use Rattle.std.proofs.Common.{rules, ◌∙◌, sym, ap, Some, None, Bool, if◌then◌else◌}
use Rattle.std.specs.Prelude.{option_copied}
use Rattle.gx_slab.proofs.Order_found.{found_at, found_nowhere, order_found}
use Rattle.gx_slab.proofs.places.order_of.Goals as goal

pub returns-in_err-place : goal.returns-in_err-place
returns-in_err-place c =
    ap option_copied c.from_residual.ensures
    ∙ order_found c.args.account c.args.places.now c.args.rows.now c.args.number None c.requires.placed
    (found_nowhere c.args.rows.now c.args.number (sym c.place_of.ensures ∙ c.in_err-place.was))

pub returns-in_err-order : goal.returns-in_err-order
returns-in_err-order c =
    ap option_copied c.from_residual-in_err-order.ensures
    ∙ order_found c.args.account c.args.places.now c.args.rows.now c.args.number None c.requires.placed
    (sym (found_at c.args.rows.now c.args.number c.in_ok-place.place (sym c.place_of.ensures ∙ c.in_ok-place.was)) ∙ search rules)

pub returns-then-is_of_account : goal.returns-then-is_of_account
returns-then-is_of_account c =
    ap (λ (b : Bool). if b then Some c.in_ok-order.order.now else None) c.if-is_of_account.ensures
    ∙ order_found c.args.account c.args.places.now c.args.rows.now c.args.number (Some c.in_ok-order.order.now) c.requires.placed
    (sym (found_at c.args.rows.now c.args.number c.in_ok-place.place (sym c.place_of.ensures ∙ c.in_ok-place.was)) ∙ search rules)

pub returns-else-is_of_account : goal.returns-else-is_of_account
returns-else-is_of_account c =
    ap (λ (b : Bool). if b then Some c.in_ok-order.order.now else None) c.if-is_of_account.ensures
    ∙ order_found c.args.account c.args.places.now c.args.rows.now c.args.number (Some c.in_ok-order.order.now) c.requires.placed
    (sym (found_at c.args.rows.now c.args.number c.in_ok-place.place (sym c.place_of.ensures ∙ c.in_ok-place.was)) ∙ search rules)
