-- Where a change is seen.
use Rattle.std.specs.Prelude.{◌≡◌, Bool, not, IsFalse, IsSome, List, []}
use Rattle.gx_units.specs.{Names.same_stock, declared.names.Symbol.Symbol}
use Rattle.gx_book.specs.{Resting.RestingData, Books.{StockOrders, on_each_side, with_one_side, resting_in, stock_in}}

-- a change of each side is seen on each side, where it makes nothing of nothing
abbrev pub EachSideShows : Type 0
EachSideShows =
    (book : List StockOrders) (stock : Symbol) (buy : Bool) (change : List RestingData → List RestingData) → change [] ≡ []
    → resting_in (on_each_side change book) stock buy ≡ change (resting_in book stock buy)

-- a change of one side is seen there, in a stock that is listed
abbrev pub OwnSideShows : Type 0
OwnSideShows =
    (book : List StockOrders) (stock : Symbol) (buy : Bool) (change : List RestingData → List RestingData) → IsSome (stock_in book stock)
    → resting_in (with_one_side stock buy change book) stock buy ≡ change (resting_in book stock buy)

-- and not on the stock's other side
abbrev pub OtherSideStays : Type 0
OtherSideStays =
    (book : List StockOrders) (stock : Symbol) (buy : Bool) (change : List RestingData → List RestingData)
    → resting_in (with_one_side stock buy change book) stock (not buy) ≡ resting_in book stock (not buy)

-- and in no other stock
abbrev pub OtherStocksStay : Type 0
OtherStocksStay =
    (book : List StockOrders) (stock other : Symbol) (buy way : Bool) (change : List RestingData → List RestingData) → IsFalse (same_stock stock other)
    → resting_in (with_one_side stock buy change book) other way ≡ resting_in book other way
