-- The live orders: as they stand by number, as they wait, and as they rest in the book.
use Rattle.std.specs.{Prelude.{◌≡◌, IsTrue, IsFalse, ℕ, Bool, ◌&&◌, ◌==◌, nat_lt, not, List, Option, Some, None, if◌then◌else◌}, List.{filter, filter_map, find, list_any}}
use Rattle.gx_units.specs.{declared.names.{AccountName.AccountName, Symbol.Symbol, Token.Token, UserName.UserName}, Names.{same_account, same_stock}}
use Rattle.gx_policy.specs.{declared.policy.PolicyData.PolicyData, Lists.{in_order, last_such}}
use Rattle.gx_history.specs.{declared.{live_order.LiveOrder.LiveOrder, «record».RecordData.RecordData}, Book.{is_buy, is_on, rest_numbers}, Executions.{Execution, done, executions}, LiveOrders.is_under, Orders.{Order, is_dead, orders, total}}

-- the order, with this size, of which so much is executed
abbrev pub open_order : Order → ℕ → ℕ → Bool → LiveOrder
open_order o size gone waits = record { number = o.number; user = o.user; account = o.account; token = o.token; terms = o.terms; total = size; done = gone; waits = waits }

-- the order as it is live; none where it has ended, or has executed its size
abbrev pub open_with : Order → Bool → ℕ → ℕ → Bool → Option LiveOrder
open_with o ended size gone waits = if not ended && nat_lt gone size then Some (open_order o size gone waits) else None

-- a record has put the order of this number to rest
abbrev pub has_come : List ℕ → ℕ → Bool
has_come came number = list_any (λ n. n == number) came

-- the order as it is live after these records, if it is
abbrev pub open_now : List Execution → List RecordData → Order → Option LiveOrder
open_now made history o = open_with o (is_dead history o) (total history o) (done made o) (not (has_come (rest_numbers history) o.number))

-- the live orders, by number
unfoldable pub live : PolicyData → List RecordData → List LiveOrder
live policy history = filter_map (open_now (executions policy history) history) (orders policy history)

-- those that wait to be matched
unfoldable pub waiting : PolicyData → List RecordData → List LiveOrder
waiting policy history = filter (λ (o : LiveOrder). o.waits) (live policy history)

-- the order of this number
abbrev pub live_numbered : List LiveOrder → ℕ → Option LiveOrder
live_numbered found number = find (λ (o : LiveOrder). o.number == number) found

-- the order of the user under the token
abbrev pub live_under : List LiveOrder → UserName → Token → Option LiveOrder
live_under found user token = last_such (is_under user token) found

-- the orders of other accounts, in their places
abbrev pub of_others : AccountName → List LiveOrder → List LiveOrder
of_others account found = filter (λ (o : LiveOrder). not (same_account account o.account)) found

-- the order is in this stock and on this side, true for buys
abbrev pub is_there : Symbol → Bool → LiveOrder → Bool
is_there stock buy o = same_stock o.terms.stock stock && is_on buy o.terms.side

-- the first has the better price, for buys or for sells
abbrev pub ahead : Bool → LiveOrder → LiveOrder → Bool
ahead buy a b = if buy then nat_lt b.terms.price a.terms.price else nat_lt a.terms.price b.terms.price

-- those that rest on one side of a stock, the earlier to rest first
abbrev pub by_time : PolicyData → List RecordData → Symbol → Bool → List LiveOrder
by_time policy history stock buy = filter (is_there stock buy) (filter_map (live_numbered (live policy history)) (rest_numbers history))

-- and these, the better price first, then the earlier to rest
unfoldable pub side : PolicyData → List RecordData → Symbol → Bool → List LiveOrder
side policy history stock buy = in_order (ahead buy) (by_time policy history stock buy)

-- the order buys
abbrev pub is_buy_order : LiveOrder → Bool
is_buy_order o = is_buy o.terms.side

-- the order has this price
abbrev pub has_price : ℕ → LiveOrder → Bool
has_price price o = o.terms.price == price

-- the order is live, and rests on this side of the stock
pub record IsAtRest (policy : PolicyData) (history : List RecordData) (stock : Symbol) (buy : Bool) (o : LiveOrder) : Type 0 where
  pub is_in_place : IsTrue (is_there stock buy o)
  pub came_to_rest : IsFalse o.waits
  pub lives : live_numbered (live policy history) o.number ≡ Some o
