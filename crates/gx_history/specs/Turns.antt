-- What becomes of each live order, and of the lists that they stand in, by what a record does to them.
use Rattle.std.specs.{Option.option_map_or, Prelude.{ℕ, ◌+◌, Bool, true, false, ◌||◌, ◌==◌, nat_lt, not, List, [], ◌∷◌, ◌++◌, Option, Some, None, if◌then◌else◌}, List.{filter, filter_map}}
use Rattle.gx_units.specs.declared.names.{AccountName.AccountName, Symbol.Symbol, UserName.UserName}
use Rattle.gx_ouch.specs.declared.inbound.EnterOrder.{EnterOrder}
use Rattle.gx_desk.specs.declared.Action.{Action}
use Rattle.gx_policy.specs.{declared.policy.PolicyData.PolicyData, Lists.inserted_behind}
use Rattle.gx_history.specs.{declared.{live_order.LiveOrder.LiveOrder, «record».{Fill.Fill, RecordData.RecordData}}, Live.{ahead, is_there, live_numbered, open_order}, Orders.{ends_account, order_entered}}

-- what a record does to the live orders: nothing, or it adds one, sizes the one of a number, puts one in the place of that of a number, ends those of the
-- accounts that an action is for, fills two, puts one to rest, or ends one
pub data Turn : Type 0 where
  Keeps : Turn
  Adds : LiveOrder → Turn
  Sizes : ℕ → ℕ → Turn
  Replaces : ℕ → LiveOrder → Turn
  EndsAll : Action → Turn
  Fills : Fill → Turn
  Rests : ℕ → Turn
  Ends : ℕ → Turn

-- the order, while it has shares open
abbrev pub while_open : LiveOrder → Option LiveOrder
while_open o = if nat_lt o.done o.total then Some o else None

-- what becomes of a live order; none where it is live no more
abbrev pub becomes : Turn → LiveOrder → Option LiveOrder
becomes (Sizes number size) o = if o.number == number then while_open (record o { total = size }) else Some o
becomes (Replaces number new) o = if o.number == number then None else Some o
becomes (EndsAll action) o = if ends_account o.account action then None else Some o
becomes (Fills f) o = if o.number == f.taker || o.number == f.maker then while_open (record o { done = o.done + f.shares }) else Some o
becomes (Rests number) o = Some (if number == o.number then record o { waits = false } else o)
becomes (Ends number) o = if number == o.number then None else Some o
becomes other o = Some o

-- the order that comes new
abbrev pub new_in : Turn → List LiveOrder
new_in (Adds new) = new ∷ []
new_in (Replaces number new) = new ∷ []
new_in other = []

-- the live orders then
abbrev pub live_after : Turn → List LiveOrder → List LiveOrder
live_after turn found = filter_map (becomes turn) found ++ new_in turn

-- the order of a granted Enter: nothing of it is executed, and it waits
abbrev pub new_order : PolicyData → RecordData → UserName → AccountName → EnterOrder → LiveOrder
new_order policy r user account m = open_order (order_entered policy r user account m) m.shares 0 true

-- those that wait then: of them one may come to rest
abbrev pub waiting_after : Turn → List LiveOrder → List LiveOrder
waiting_after (Rests number) found = filter (λ (o : LiveOrder). not (number == o.number)) found
waiting_after turn found = live_after turn found

-- and those that rest on one side of a stock, where these were live
abbrev pub side_after : Turn → List LiveOrder → Symbol → Bool → List LiveOrder → List LiveOrder
side_after (Rests number) before stock buy found =
    option_map_or (λ (o : LiveOrder). if is_there stock buy o then inserted_behind (ahead buy) found (record o { waits = false }) else found) (live_numbered before number) found
side_after turn before stock buy found = filter_map (becomes turn) found
