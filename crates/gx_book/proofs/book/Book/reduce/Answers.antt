use Rattle.std.proofs.Common.{◌-◌, ◌∙◌, sym, ap}
use Rattle.gx_history.specs.{Book.is_buy, LiveOrders.shares_open}
use Rattle.gx_book.specs.{Books.{is_sound_book, with_one_side}, Queue.left_with, Resting.resting_of, Table.book_of}
use Rattle.gx_book.proofs.{Side_order.in_order_left, Stocks_table.{sound_on_side, unlisted_stays, written_back}}
use Rattle.gx_book.proofs.book.Book.reduce.Goals as goal

pub returns-in_default : goal.returns-in_default
returns-in_default c =
    rw c.get_mut_near.follows.holds-at-none
    (c.self.view_is ∙ sym (unlisted_stays c.self.inside.by_stock.entries c.args.self.now c.args.order.now.terms.stock (is_buy c.args.order.now.terms.side) (left_with (resting_of c.args.order.now) (shares_open c.args.order.now - c.args.shares)) c.self.view_is c.in_default.ensures.value))

pub invariant_of-self-2 : goal.invariant_of-self-2
invariant_of-self-2 c =
    let f = left_with (resting_of c.args.order.now) (shares_open c.args.order.now - c.args.shares) in
    ap is_sound_book
    (written_back c.self.inside.by_stock.entries _ c.args.order.now.terms.stock c.is_buy.result f c.in-Some.sides.now c.reduce.new.self (c.get_mut_near.follows.holds c.reduce.new.self).0 c.reduce.ensures c.in-Some.ensures.unique c.in-Some.ensures.value)
    ∙ sound_on_side c.args.order.now.terms.stock c.is_buy.result f (book_of c.self.inside.by_stock.entries) c.self.invariant (in_order_left c.is_buy.result (resting_of c.args.order.now) (shares_open c.args.order.now - c.args.shares))

pub returns : goal.returns
returns c =
    let f = left_with (resting_of c.args.order.now) (shares_open c.args.order.now - c.args.shares) in
    written_back c.self.inside.by_stock.entries _ c.args.order.now.terms.stock c.is_buy.result f c.in-Some.sides.now c.reduce.new.self (c.get_mut_near.follows.holds c.reduce.new.self).0 c.reduce.ensures c.in-Some.ensures.unique c.in-Some.ensures.value
    ∙ ap (with_one_side c.args.order.now.terms.stock c.is_buy.result f) c.self.view_is
    ∙ ap (λ b. with_one_side c.args.order.now.terms.stock b f c.args.self.now) c.is_buy.ensures
