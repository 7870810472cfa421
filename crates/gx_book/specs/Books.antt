-- A book: for each listed stock the orders that rest, buys and sells apart.
use Rattle.std.specs.{Prelude.{ℕ, Bool, true, false, IsTrue, ◌&&◌, List, [], ◌++◌, Option, map, slice_get, if◌then◌else◌}, Option.option_map_or, List.{find, flat_map, list_all}}
use Rattle.gx_units.specs.{Names.same_stock, declared.names.Symbol.Symbol}
use Rattle.gx_policy.specs.{Lists.are_distinct, declared.policy.{Stock.Stock, PolicyData.PolicyData}}
use Rattle.gx_book.specs.{Resting.RestingData, Queue.{is_in_order, is_numbered, with_order}}

-- the orders that rest in one stock, each side with the better price first
pub record StockOrders : Type 0 where
  pub stock : Symbol
  pub buys : List RestingData
  pub sells : List RestingData

-- one side, true for buys
abbrev pub orders_on_side : Bool → StockOrders → List RestingData
orders_on_side buy s = if buy then s.buys else s.sells

-- one side changed, true for buys
abbrev pub with_side : Bool → (List RestingData → List RestingData) → StockOrders → StockOrders
with_side buy change s = record {
  stock = s.stock;
  buys = if buy then change s.buys else s.buys;
  sells = if buy then s.sells else change s.sells;
}

-- the orders in the stock
abbrev pub stock_in : List StockOrders → Symbol → Option StockOrders
stock_in book stock = find (λ (s : StockOrders). same_stock stock s.stock) book

-- the orders that rest on one side of a stock, in price-time priority; none in a stock that is not listed
abbrev pub resting_in : List StockOrders → Symbol → Bool → List RestingData
resting_in book stock buy = option_map_or (orders_on_side buy) (stock_in book stock) []

-- the best order on one side of a stock
abbrev pub best_in : List StockOrders → Symbol → Bool → Option RestingData
best_in book stock buy = slice_get (resting_in book stock buy) 0

-- the book with one side of one stock changed, and all else as it was
abbrev pub with_one_side : Symbol → Bool → (List RestingData → List RestingData) → List StockOrders → List StockOrders
with_one_side stock buy change book = map (λ (s : StockOrders). if same_stock stock s.stock then with_side buy change s else s) book

-- the book with one more order on one side of a stock
abbrev pub with_rested : Symbol → Bool → RestingData → List StockOrders → List StockOrders
with_rested stock buy r book = with_one_side stock buy (with_order buy r) book

-- the book with each side changed
abbrev pub on_each_side : (List RestingData → List RestingData) → List StockOrders → List StockOrders
on_each_side change book = map (λ (s : StockOrders). record { stock = s.stock; buys = change s.buys; sells = change s.sells }) book

-- all orders of a stock
abbrev pub both_sides : StockOrders → List RestingData
both_sides s = s.buys ++ s.sells

-- all orders
abbrev pub all_orders : List StockOrders → List RestingData
all_orders book = flat_map both_sides book

-- the order of this number
abbrev pub order_in : List StockOrders → ℕ → Option RestingData
order_in book number = find (is_numbered number) (all_orders book)

-- a listed stock without an order
abbrev pub without_orders : Stock → StockOrders
without_orders s = record { stock = s.name; buys = []; sells = [] }

-- the policy's stocks without an order
abbrev pub empty_book : PolicyData → List StockOrders
empty_book policy = map without_orders policy.stocks

-- each side has the better price first
abbrev pub is_sound_stock : StockOrders → Bool
is_sound_stock s = is_in_order true s.buys && is_in_order false s.sells

-- each stock's sides have
abbrev pub is_sound_book : List StockOrders → Bool
is_sound_book book = list_all is_sound_stock book

-- two entries of one stock
abbrev pub is_same_stock : StockOrders → StockOrders → Bool
is_same_stock a b = same_stock a.stock b.stock

-- what is always so: each side has the better price first, and no stock stands twice
pub record IsSound (book : List StockOrders) : Type 0 where
  pub sides_are_sound : IsTrue (is_sound_book book)
  pub stocks_differ : IsTrue (are_distinct is_same_stock book)
