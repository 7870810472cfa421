-- The orders of an account that rest.
use Rattle.std.specs.{Prelude.{◌≡◌, ℕ, Bool, true, false, ◌&&◌, List, length}, List.{AllByRecursion, filter, list_any}}
use Rattle.gx_units.specs.declared.names.{AccountName.AccountName, Symbol.Symbol}
use Rattle.gx_history.specs.{declared.live_order.LiveOrder.LiveOrder, Live.is_there}
use Rattle.gx_book.specs.{Resting.{RestingData, resting_of}, Books.{StockOrders, all_orders}, Queue.{is_resting_of, is_same}}

-- the live order is for this side of this stock, true for buys, and what rests there has its number and its price
abbrev pub rests_as : Symbol → Bool → RestingData → LiveOrder → Bool
rests_as stock buy r o = is_there stock buy o && is_same (resting_of o) r

-- what rests there is one of these live orders exactly where it is the account's
abbrev pub IsOneOf : List LiveOrder → AccountName → Symbol → Bool → RestingData → Type 0
IsOneOf his account stock buy r = list_any (rests_as stock buy r) his ≡ is_resting_of account r

-- so is all that rests in the stock
pub record AreInStock (his : List LiveOrder) (account : AccountName) (s : StockOrders) : Type 0 where
  pub buys : AllByRecursion (IsOneOf his account s.stock true) s.buys
  pub sells : AllByRecursion (IsOneOf his account s.stock false) s.sells

-- and all that rests: of these orders those that rest are all that rest of the account
abbrev pub AreAllOf : AccountName → List LiveOrder → List StockOrders → Type 0
AreAllOf account his book = AllByRecursion (AreInStock his account) book

-- how many orders of the account rest
abbrev pub count_of : AccountName → List StockOrders → ℕ
count_of account book = length (filter (is_resting_of account) (all_orders book))
