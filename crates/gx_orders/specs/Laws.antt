-- What the definitions say of every history, in the words of what is kept.
use Rattle.std.specs.{Prelude.{◌≡◌, ◌<◌, ◌==◌, is_some, IsTrue, IsFalse, IfSome, List, [], ◌∷◌, ◌++◌, Some, ℕ}, List.AllByRecursion}
use Rattle.gx_units.specs.declared.names.{UserName.UserName, Token.Token}
use Rattle.gx_policy.specs.{declared.policy.PolicyData.PolicyData, People.account_of}
use Rattle.gx_history.specs.{declared.{live_order.LiveOrder.LiveOrder, moves.Move.{Move, TheVariants.{Denies, Adds, Sizes, Replaces, Fills, Rests, Expires}}, «record».{Fill.Fill, RecordData.RecordData}}, Orders.is_token_used, Live.live, World.Does}
use Rattle.gx_orders.specs.{LiveOrders.{OrdersData, AreBelow, HasOpen, filled_at, first_waiting, is_used, live_numbered}, InForce.orders_in_force, Changes.{IsUnused, orders_moved}}

-- before any record there is no order and no used token
abbrev pub NoneAtFirst : Type 0
NoneAtFirst = (policy : PolicyData) → orders_in_force policy [] ≡ record { live = []; used = [] }

-- a token is among the used ones exactly where the user can ask for no more orders under it
abbrev pub UsedTokensAreKept : Type 0
UsedTokensAreKept = (policy : PolicyData) (history : List RecordData) (user : UserName) (token : Token)
    → is_used (orders_in_force policy history).used user token ≡ is_token_used history user token

-- a live order is for the account that its user trades for
abbrev pub LiveAccountsAreTheUsers : Type 0
LiveAccountsAreTheUsers = (policy : PolicyData) (history : List RecordData)
    → AllByRecursion (λ (o : LiveOrder). account_of policy o.user ≡ Some o.account) (live policy history)

-- what one more record does is done to the orders that are kept
abbrev pub OrdersGoOn : Type 0
OrdersGoOn = (policy : PolicyData) (history : List RecordData) (r : RecordData) (m : Move)
    → Does policy history r m → orders_in_force policy (history ++ r ∷ []) ≡ orders_moved m (orders_in_force policy history)

-- an order is new to these: it waits with shares open, its number is above theirs, and its token was not used
pub record IsNewTo (d : OrdersData) (new : LiveOrder) : Type 0 where
  pub has_shares : new.done < new.total
  pub waits : IsTrue new.waits
  pub comes_last : AreBelow new.number d.live
  pub is_unused : IsFalse (is_used d.used new.user new.token)

-- the new order may come in the place of the old one, which is live
pub record MakesPlace (d : OrdersData) (old new : LiveOrder) : Type 0 where
  pub is_live : live_numbered d.live old.number ≡ Some old
  pub is_older : old.number < new.number
  pub is_new : IsNewTo d new

-- each side of a fill is there and has its shares open, the maker also once the taker has executed them
pub record CanFill (live : List LiveOrder) (f : Fill) : Type 0 where
  pub sides_differ : IsFalse (f.taker == f.maker)
  pub taker_lives : IsTrue (is_some (live_numbered live f.taker))
  pub maker_lives : IsTrue (is_some (live_numbered live f.maker))
  pub taker_has_them : IfSome (live_numbered live f.taker) (HasOpen f.shares)
  pub maker_has_them : IfSome (live_numbered (filled_at f.taker f.shares live) f.maker) (HasOpen f.shares)

-- the order of this number is the first that waits
pub record ComesFirst (live : List LiveOrder) (number : ℕ) : Type 0 where
  pub order : LiveOrder
  pub is_found : live_numbered live number ≡ Some order
  pub waits_first : first_waiting live ≡ Some order

-- what is done finds the orders so
abbrev pub FindsOrders : Move → OrdersData → Type 0
FindsOrders (Denies a rule) d = IsUnused d.used a rule
FindsOrders (Adds new) d = IsNewTo d new
FindsOrders (Sizes cut size) d = live_numbered d.live cut.number ≡ Some cut
FindsOrders (Replaces old new) d = MakesPlace d old new
FindsOrders (Fills f) d = CanFill d.live f
FindsOrders (Rests number) d = ComesFirst d.live number
FindsOrders (Expires number) d = ComesFirst d.live number
FindsOrders other d = Unit {0}

abbrev pub RecordsFindOrders : Type 0
RecordsFindOrders = (policy : PolicyData) (history : List RecordData) (r : RecordData) (m : Move)
    → Does policy history r m → FindsOrders m (orders_in_force policy history)
