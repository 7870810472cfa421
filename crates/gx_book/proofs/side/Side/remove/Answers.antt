use Rattle.std.proofs.Common.{Some, ◌∙◌, ap, sym}
use Rattle.std.specs.{Option.option_map, List.find, Map.values_of}
use Rattle.gx_history.specs.Book.{is_buy}
use Rattle.gx_book.specs.{Keys.{are_keyed, resting_of_kept, orders_at, price_at}, Queue.{is_same, without_order}, Resting.{resting_of}}
use Rattle.gx_book.proofs.Side_keys.{found_at, go_keyed, is_held, taken_at}
use Rattle.gx_book.proofs.side.Side.remove.Goals as goal

pub invariant_of-self-2 : goal.invariant_of-self-2
invariant_of-self-2 g c =
    ap (λ es. are_keyed (is_buy g.row.SIDE) (orders_at (is_buy g.row.SIDE) es)) c.remove.ensures.entries ∙ go_keyed _ _ c.self.inside.orders.entries c.self.invariant

pub returns-in_err-kept-clause-given : goal.returns-in_err-kept-clause-given
returns-in_err-kept-clause-given g c =
    c.from_residual.ensures
    ∙ ap (option_map (resting_of_kept c.key_of.result.1 (price_at (is_buy g.row.SIDE) c.key_of.result.0))) (sym c.in_err-kept.was ∙ c.remove.ensures.value)
    ∙ sym (found_at _ c.key_of.result (resting_of c.args.order.now) c.self.inside.orders.entries c.key_of.ensures.keyed c.self.invariant)
    ∙ ap (find (is_same (resting_of c.args.order.now))) c.self.view_is

pub returns-in_err-kept-clause-removed : goal.returns-in_err-kept-clause-removed
returns-in_err-kept-clause-removed g c =
    ap (λ es. values_of (orders_at (is_buy g.row.SIDE) es)) c.remove.ensures.entries
    ∙ (taken_at _ c.key_of.result (resting_of c.args.order.now) c.self.inside.orders.entries c.key_of.ensures.keyed c.self.invariant c.len.ensures.ordered).1
    ∙ ap (without_order (resting_of c.args.order.now)) c.self.view_is

pub returns-clause-given : goal.returns-clause-given
returns-clause-given g c =
    ap Some (c.of.ensures ∙ is_held (is_buy g.row.SIDE) c.key_of.result c.args.order.now c.in_ok-kept.kept c.key_of.ensures.meant c.key_of.ensures.numbered)
    ∙ ap (option_map (resting_of_kept c.key_of.result.1 (price_at (is_buy g.row.SIDE) c.key_of.result.0))) (sym c.in_ok-kept.was ∙ c.remove.ensures.value)
    ∙ sym (found_at _ c.key_of.result (resting_of c.args.order.now) c.self.inside.orders.entries c.key_of.ensures.keyed c.self.invariant)
    ∙ ap (find (is_same (resting_of c.args.order.now))) c.self.view_is

pub returns-clause-removed : goal.returns-clause-removed
returns-clause-removed g c =
    ap (λ es. values_of (orders_at (is_buy g.row.SIDE) es)) c.remove.ensures.entries
    ∙ (taken_at _ c.key_of.result (resting_of c.args.order.now) c.self.inside.orders.entries c.key_of.ensures.keyed c.self.invariant c.len.ensures.ordered).1
    ∙ ap (without_order (resting_of c.args.order.now)) c.self.view_is
