use Rattle.std.proofs.Common.{◌∙◌, sym, ap}
use Rattle.gx_units.proofs.Results_hold.{on_err}
use Rattle.gx_history.specs.Book.{is_buy}
use Rattle.gx_book.specs.{Books.{is_sound_book, with_one_side}, Queue.with_order, Resting.resting_of, Table.book_of}
use Rattle.gx_book.proofs.{Side_order.in_order_placed, Stocks_table.{sound_on_side, unlisted_stays, written_back, written_same}}
use Rattle.gx_book.proofs.book.Book.rest.Goals as goal

pub returns-in_default-clause-ok : goal.returns-in_default-clause-ok
returns-in_default-clause-ok c =
    let o = c.args.order.now in
    rw c.get_mut_near.follows.holds-at-none
    (c.self.view_is ∙ sym (unlisted_stays c.self.inside.by_stock.entries c.args.self.now o.terms.stock (is_buy o.terms.side) (with_order (is_buy o.terms.side) (resting_of o)) c.self.view_is c.in_default.ensures.value))

pub invariant_of-self-in_err-put : goal.invariant_of-self-in_err-put
invariant_of-self-in_err-put c =
    ap is_sound_book (written_same c.self.inside.by_stock.entries _ c.args.order.now.terms.stock c.in-Some.sides.now c.put.new.self (c.get_mut_near.follows.holds c.put.new.self).0 c.in_err-put.ensures.err c.in-Some.ensures.value)
    ∙ c.self.invariant

pub returns-in_err-put-clause-err : goal.returns-in_err-put-clause-err
returns-in_err-put-clause-err c =
    on_err _ _ (written_same c.self.inside.by_stock.entries _ c.args.order.now.terms.stock c.in-Some.sides.now c.put.new.self (c.get_mut_near.follows.holds c.put.new.self).0 c.in_err-put.ensures.err c.in-Some.ensures.value ∙ c.self.view_is)

pub invariant_of-self-2 : goal.invariant_of-self-2
invariant_of-self-2 c =
    let o = c.args.order.now in
    let f = with_order c.is_buy.result (resting_of o) in
    ap is_sound_book
    (written_back c.self.inside.by_stock.entries _ o.terms.stock c.is_buy.result f c.in-Some.sides.now c.put.new.self (c.get_mut_near.follows.holds c.put.new.self).0 c.in_ok-put.ensures.ok c.in-Some.ensures.unique c.in-Some.ensures.value)
    ∙ sound_on_side o.terms.stock c.is_buy.result f (book_of c.self.inside.by_stock.entries) c.self.invariant (in_order_placed c.is_buy.result (resting_of o))

pub returns-clause-ok : goal.returns-clause-ok
returns-clause-ok c =
    let o = c.args.order.now in
    written_back c.self.inside.by_stock.entries _ o.terms.stock c.is_buy.result (with_order c.is_buy.result (resting_of o)) c.in-Some.sides.now c.put.new.self (c.get_mut_near.follows.holds c.put.new.self).0 c.in_ok-put.ensures.ok c.in-Some.ensures.unique c.in-Some.ensures.value
    ∙ ap (with_one_side o.terms.stock c.is_buy.result (with_order c.is_buy.result (resting_of o))) c.self.view_is
    ∙ ap (λ b. with_one_side o.terms.stock b (with_order b (resting_of o)) c.args.self.now) c.is_buy.ensures
