-- What holds of live orders, fills and grants at any time of a day, and which changes may come.
use Rattle.std.specs.{Prelude.{ℕ, ◌≡◌, ◌-◌, ◌≤◌, ◌<◌, ◌^◌, Bool, true, IsTrue, IsFalse, ◌==◌, nat_eq, nat_lt, List, [], ◌∷◌, map, Some, None, is_some}, List.{AllByRecursion, IsDistinct}}
use Rattle.gx_units.specs.{Names.same_stock, declared.names.AccountName.AccountName}
use Rattle.gx_policy.specs.{declared.policy.PolicyData.PolicyData, People.stock_named}
use Rattle.gx_history.specs.{declared.{live_order.LiveOrder.LiveOrder, «record».Fill.Fill}, Figures.{Positions, live_shares, live_value, done_shares, done_value}, Live.live_numbered, LiveOrders.shares_open, Orders.{Order, order_numbered}, Turns.{Turn, Adds, Ends, Fills, Replaces, Sizes}}

-- any account
abbrev pub anyone : AccountName → Bool
anyone account = true

-- the sums over all accounts fit 128 bits; executed shares leave one bit for a sign
pub record SumsFit (held : Positions) : Type 0 where
  pub live_shares : live_shares held.live anyone < 2 ^ 128
  pub live_value : live_value held.live anyone < 2 ^ 128
  pub done_shares : done_shares held.executions anyone < 2 ^ 127
  pub done_value : done_value held.executions anyone < 2 ^ 128

-- the order is no later than this one
abbrev pub IsNoLater : Order → Order → Type 0
IsNoLater later earlier = earlier.moment ≤ later.moment

-- moments do not fall from order to order
abbrev pub NeverFall : List Order → Type 0
NeverFall [] = Unit {0}
NeverFall (o ∷ os) = AllByRecursion (λ (later : Order). IsNoLater later o) os × NeverFall os

-- the numbers of the orders
abbrev pub numbers_of : List LiveOrder → List ℕ
numbers_of found = map (λ (o : LiveOrder). o.number) found

-- the order's stock is one of the policy
abbrev pub IsListed : PolicyData → LiveOrder → Type 0
IsListed policy o = IsTrue (is_some (stock_named policy o.terms.stock))

-- the order has shares open
abbrev pub IsLive : LiveOrder → Type 0
IsLive o = IsTrue (nat_lt o.done o.total)

-- what holds at any time of a day
pub record AreSound (policy : PolicyData) (held : Positions) : Type 0 where
  pub numbers_differ : IsDistinct nat_eq (numbers_of held.live)
  pub all_live : AllByRecursion IsLive held.live
  pub all_listed : AllByRecursion (IsListed policy) held.live
  pub never_fall : NeverFall held.grants
  pub fit : SumsFit held

-- the live order is the one that was granted so
pub record IsOf (o : LiveOrder) (grant : Order) : Type 0 where
  pub number : grant.number ≡ o.number
  pub account : grant.account ≡ o.account
  pub terms : grant.terms ≡ o.terms

-- a new order is the one that is granted: its number is new, its stock is listed, it is no earlier than those before, it has shares open, and its size and its price are below 2 ^ 32
pub record MayCome (policy : PolicyData) (held : Positions) (new : LiveOrder) (granted : List Order) : Type 0 where
  pub grant : Order
  pub is_granted : granted ≡ grant ∷ []
  pub is_of : IsOf new grant
  pub is_new : live_numbered held.live new.number ≡ None
  pub is_listed : IsListed policy new
  pub is_last : AllByRecursion (IsNoLater grant) held.grants
  pub is_open : IsLive new
  pub is_small : new.total < 2 ^ 32
  pub is_cheap : new.terms.price < 2 ^ 32

-- there is a live order of this number, and it is the one that was granted under it
pub record IsLiveThere (held : Positions) (number : ℕ) : Type 0 where
  pub order : LiveOrder
  pub is_found : live_numbered held.live number ≡ Some order
  pub grant : Order
  pub is_granted : order_numbered held.grants number ≡ Some grant
  pub is_of : IsOf order grant

-- the live order of this number has fewer shares open with this size
pub record MaySizeHeld (held : Positions) (number size : ℕ) : Type 0 where
  pub is_there : IsLiveThere held number
  pub is_less : size - is_there.order.done < shares_open is_there.order

-- the live order of this number makes place for one of the same account
pub record MayReplaceHeld (policy : PolicyData) (held : Positions) (number : ℕ) (new : LiveOrder) (granted : List Order) : Type 0 where
  pub is_there : IsLiveThere held number
  pub is_his : new.account ≡ is_there.order.account
  pub may_come : MayCome policy held new granted

-- a fill between two live orders of one stock, of shares that both have open, at the price of the second
pub record MayFillHeld (held : Positions) (f : Fill) : Type 0 where
  pub taker : IsLiveThere held f.taker
  pub maker : IsLiveThere held f.maker
  pub they_differ : IsFalse (f.taker == f.maker)
  pub of_one_stock : IsTrue (same_stock maker.order.terms.stock taker.order.terms.stock)
  pub taker_has : f.shares ≤ shares_open taker.order
  pub maker_has : f.shares ≤ shares_open maker.order
  pub at_its_price : f.price ≡ maker.order.terms.price

-- what may be done to the live orders, with these orders granted
abbrev pub MayChange : PolicyData → Positions → Turn → List Order → Type 0
MayChange policy held (Adds new) granted = MayCome policy held new granted
MayChange policy held (Sizes number size) granted = MaySizeHeld held number size
MayChange policy held (Replaces number new) granted = MayReplaceHeld policy held number new granted
MayChange policy held (Fills f) granted = MayFillHeld held f
MayChange policy held (Ends number) granted = IsLiveThere held number
MayChange policy held other granted = Unit {0}
