use Rattle.std.proofs.Common.{◌∙◌, sym, ap}
use Rattle.gx_history.specs.Book.{is_buy}
use Rattle.gx_book.specs.{Books.{is_sound_book, with_one_side}, Queue.taken_from_first, Table.book_of}
use Rattle.gx_book.proofs.{Side_order.in_order_taken, Stocks_table.{sound_on_side, unlisted_stays, written_back}}
use Rattle.gx_book.proofs.book.Book.take_from_best.Goals as goal

pub returns-in_default : goal.returns-in_default
returns-in_default c =
    rw c.get_mut_near.follows.holds-at-none
    (c.self.view_is ∙ sym (unlisted_stays c.self.inside.by_stock.entries c.args.self.now c.args.stock (is_buy c.args.side) (taken_from_first c.args.shares) c.self.view_is c.in_default.ensures.value))

pub invariant_of-self-2 : goal.invariant_of-self-2
invariant_of-self-2 c =
    let f = taken_from_first c.args.shares in
    ap is_sound_book
    (written_back c.self.inside.by_stock.entries _ c.args.stock c.is_buy.result f c.in-Some.sides.now c.take_from_first.new.self (c.get_mut_near.follows.holds c.take_from_first.new.self).0 c.take_from_first.ensures c.in-Some.ensures.unique c.in-Some.ensures.value)
    ∙ sound_on_side c.args.stock c.is_buy.result f (book_of c.self.inside.by_stock.entries) c.self.invariant (in_order_taken c.is_buy.result c.args.shares)

pub returns : goal.returns
returns c =
    let f = taken_from_first c.args.shares in
    written_back c.self.inside.by_stock.entries _ c.args.stock c.is_buy.result f c.in-Some.sides.now c.take_from_first.new.self (c.get_mut_near.follows.holds c.take_from_first.new.self).0 c.take_from_first.ensures c.in-Some.ensures.unique c.in-Some.ensures.value
    ∙ ap (with_one_side c.args.stock c.is_buy.result f) c.self.view_is
    ∙ ap (λ b. with_one_side c.args.stock b f c.args.self.now) c.is_buy.ensures
