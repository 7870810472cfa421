use Rattle.std.proofs.Common.{List, ◌∙◌, sym, ap, length, not}
use Rattle.gx_history.specs.Book.{is_buy}
use Rattle.gx_book.specs.{Books.{StockOrders, all_orders, is_sound_book, with_one_side}, Queue.{is_same, without_order}, Resting.resting_of, Table.book_of}
use Rattle.gx_book.proofs.{Side_order.in_order_filter, Stocks_table.{fewer_back, sound_on_side, unlisted_stays, written_back}}
use Rattle.gx_book.proofs.book.Book.remove.Goals as goal

pub returns-in_err-sides-clause-removed : goal.returns-in_err-sides-clause-removed
returns-in_err-sides-clause-removed c =
    let o = c.args.order.now in
    rw c.get_mut_near.follows.holds-at-none
    (c.self.view_is ∙ sym (unlisted_stays c.self.inside.by_stock.entries c.args.self.now o.terms.stock (is_buy o.terms.side) (without_order (resting_of o)) c.self.view_is c.in_err-sides.ensures.value))

pub invariant_of-self-2 : goal.invariant_of-self-2
invariant_of-self-2 c =
    let o = c.args.order.now in
    let f = without_order (resting_of o) in
    ap is_sound_book
    (written_back c.self.inside.by_stock.entries _ o.terms.stock c.is_buy.result f c.in_ok-sides.sides.now c.remove.new.self (c.get_mut_near.follows.holds c.remove.new.self).0 c.remove.ensures.removed c.in_ok-sides.ensures.unique c.in_ok-sides.ensures.value)
    ∙ sound_on_side o.terms.stock c.is_buy.result f (book_of c.self.inside.by_stock.entries) c.self.invariant (in_order_filter c.is_buy.result (λ r. not (is_same (resting_of o) r)))

pub returns-clause-removed : goal.returns-clause-removed
returns-clause-removed c =
    let o = c.args.order.now in
    let f = without_order (resting_of o) in
    written_back c.self.inside.by_stock.entries _ o.terms.stock c.is_buy.result f c.in_ok-sides.sides.now c.remove.new.self (c.get_mut_near.follows.holds c.remove.new.self).0 c.remove.ensures.removed c.in_ok-sides.ensures.unique c.in_ok-sides.ensures.value
    ∙ ap (with_one_side o.terms.stock c.is_buy.result f) c.self.view_is
    ∙ ap (λ b. with_one_side o.terms.stock b f c.args.self.now) c.is_buy.ensures

pub returns-clause-counted : goal.returns-clause-counted
returns-clause-counted c =
    let o = c.args.order.now in
    fewer_back c.self.inside.by_stock.entries _ o.terms.stock c.is_buy.result (without_order (resting_of o)) c.in_ok-sides.sides.now c.remove.new.self _ (c.get_mut_near.follows.holds c.remove.new.self).0 c.remove.ensures.removed c.in_ok-sides.ensures.value c.remove.ensures.counted
    ∙ ap (λ (book : List StockOrders). length (all_orders book)) c.self.view_is
