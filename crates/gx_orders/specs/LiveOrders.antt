-- The live orders, and what becomes of them.
use Rattle.gx_history.specs.{LiveOrders.{same_user_token, key, token_of}, declared.live_order.{LiveOrder.LiveOrder, UserToken.UserToken}}
use Rattle.std.specs.{Prelude.{IsTrue, ℕ, ◌+◌, ◌<◌, ◌≤◌, Bool, not, List, [], ◌∷◌, map, if◌then◌else◌}, List.{filter, list_any, AllByRecursion}}
use Rattle.gx_units.specs.{declared.names.{Token.Token, UserName.UserName}}
use Rattle.gx_policy.specs.Lists.{are_distinct}
pub use Rattle.gx_slab.specs.Slabs.{at_rest, is_open, has_number, live_numbered, first_waiting, open_ones, of_account, of_others}

-- the live orders by number, and the used tokens in the order of their first use
pub record OrdersData : Type 0 where
  pub live : List LiveOrder
  pub used : List UserToken

-- the token is one of those that are used
abbrev pub is_used : List UserToken → UserName → Token → Bool
is_used used user token = list_any (same_user_token (key user token)) used

-- the order of this number changed, and all others as they were, each in its place
abbrev pub with_order_changed : (LiveOrder → LiveOrder) → ℕ → List LiveOrder → List LiveOrder
with_order_changed change number live = map (λ (o : LiveOrder). if has_number number o then change o else o) live

-- all but the order of this number, in their places
abbrev pub without_number : ℕ → List LiveOrder → List LiveOrder
without_number number live = filter (λ (o : LiveOrder). not (has_number number o)) live

-- the order with more shares executed
abbrev pub with_done : ℕ → LiveOrder → LiveOrder
with_done shares o = record o { done = o.done + shares }

-- the order with another size
abbrev pub with_total : ℕ → LiveOrder → LiveOrder
with_total total o = record o { total = total }

-- so many shares more of the order of this number executed; it is gone where none is open then
abbrev pub filled_at : (number shares : ℕ) → List LiveOrder → List LiveOrder
filled_at number shares live = open_ones (with_order_changed (with_done shares) number live)

-- another size of the order of this number; it is gone where none is open then
abbrev pub cut_at : (number total : ℕ) → List LiveOrder → List LiveOrder
cut_at number total live = open_ones (with_order_changed (with_total total) number live)

-- so many more shares of the order may be executed
abbrev pub HasOpen : ℕ → LiveOrder → Type 0
HasOpen shares o = o.done + shares ≤ o.total

-- the order with another size, and other shares executed
abbrev pub with_total_and_done : (total done : ℕ) → LiveOrder → LiveOrder
with_total_and_done total done o = record o { total = total; done = done }

-- another size of the order of this number, and other shares executed; it is gone where none is open then
abbrev pub resized_at : (number total done : ℕ) → List LiveOrder → List LiveOrder
resized_at number total done live = open_ones (with_order_changed (with_total_and_done total done) number live)

-- the numbers of the orders are below this one
abbrev pub AreBelow : ℕ → List LiveOrder → Type 0
AreBelow number live = AllByRecursion (λ (o : LiveOrder). o.number < number) live

-- each number is above all before it
abbrev pub NumbersRise : List LiveOrder → Type 0
NumbersRise [] = Unit {0}
NumbersRise (o ∷ os) = AllByRecursion (λ (p : LiveOrder). o.number < p.number) os × NumbersRise os

-- some shares of the order are open
abbrev pub IsOpen : LiveOrder → Type 0
IsOpen o = o.done < o.total

-- two orders of one user under one token
abbrev pub is_same_live_token : LiveOrder → LiveOrder → Bool
is_same_live_token a b = same_user_token (token_of a) (token_of b)

-- what is always so: the numbers rise, each order has shares open, and its token is used and no other order's
pub record AreOrdersSound (d : OrdersData) : Type 0 where
  pub rise : NumbersRise d.live
  pub all_open : AllByRecursion IsOpen d.live
  pub all_used : AllByRecursion (λ (o : LiveOrder). IsTrue (is_used d.used o.user o.token)) d.live
  pub tokens_differ : IsTrue (are_distinct is_same_live_token d.live)
