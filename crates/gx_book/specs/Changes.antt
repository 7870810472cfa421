-- What the book's calls make of it.
use Rattle.std.specs.{Prelude.{ℕ, Bool, ◌-◌, List, Option}, List.find}
use Rattle.gx_history.specs.{declared.live_order.LiveOrder.LiveOrder, Book.is_buy, LiveOrders.shares_open}
use Rattle.gx_units.specs.declared.names.Symbol.{Symbol}
use Rattle.gx_book.specs.{Resting.{RestingData, resting_of}, Books.{StockOrders, with_one_side, resting_in, with_rested}, Queue.{is_same, taken_from_first, without_order}}
use Rattle.gx_book.specs.Queue as queue

-- the orders of the order's own side of its own stock
abbrev pub own_side : List StockOrders → LiveOrder → List RestingData
own_side book o = resting_in book o.terms.stock (is_buy o.terms.side)

-- the order as the book has it, if it rests
abbrev pub found_in : List StockOrders → LiveOrder → Option RestingData
found_in book o = find (is_same (resting_of o)) (own_side book o)

-- the order put on its side of its stock
abbrev pub put_to_rest : LiveOrder → List StockOrders → List StockOrders
put_to_rest o book = with_rested o.terms.stock (is_buy o.terms.side) (resting_of o) book

-- the order taken off its side of its stock, if it rests
abbrev pub taken_out : LiveOrder → List StockOrders → List StockOrders
taken_out o book = with_one_side o.terms.stock (is_buy o.terms.side) (without_order (resting_of o)) book

-- so many shares of the order are left, if it rests: it stays where it stands, or goes where none are
abbrev pub left_with : LiveOrder → ℕ → List StockOrders → List StockOrders
left_with o shares book = with_one_side o.terms.stock (is_buy o.terms.side) (queue.left_with (resting_of o) shares) book

-- so many shares fewer of the order
abbrev pub with_fewer_shares : LiveOrder → ℕ → List StockOrders → List StockOrders
with_fewer_shares o shares book = left_with o (shares_open o - shares) book

-- so many shares taken from the best order on this side of the stock
abbrev pub taken_from_best : Symbol → Bool → ℕ → List StockOrders → List StockOrders
taken_from_best stock buy shares book = with_one_side stock buy (taken_from_first shares) book
