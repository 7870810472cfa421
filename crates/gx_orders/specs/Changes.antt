-- What one more record does to the orders that are kept.
use Rattle.std.specs.Prelude.{IfSome, IsFalse, Bool, true, false, List, [], ◌∷◌, ◌++◌, Option, None, option_map, option_to_list, if◌then◌else◌}
use Rattle.gx_units.specs.declared.names.{Token.Token, UserName.UserName}
use Rattle.gx_desk.specs.declared.Action.{Action}
use Rattle.gx_history.specs.{declared.{moves.Move.{Move, TheVariants.{Denies, Adds, Sizes, Replaces, Commands, Fills, Rests, Expires}}, «record».{Asked.Asked, Request.Request}, live_order.{LiveOrder.LiveOrder, UserToken.UserToken}}, Requests.new_token, LiveOrders.{key, token_of}}
use Rattle.gx_policy.specs.{declared.rule_name.RuleName.RuleName, RuleNames.is_answered_rule}
use Rattle.gx_orders.specs.LiveOrders.{OrdersData, at_rest, with_order_changed, cut_at, filled_at, is_used, of_others, without_number}

-- the orders with another list of live ones
abbrev pub with_live : List LiveOrder → OrdersData → OrdersData
with_live live d = record { live = live; used = d.used }

-- the orders with one more live one, and its token used
abbrev pub with_order_entered : LiveOrder → OrdersData → OrdersData
with_order_entered o d = record { live = d.live ++ o ∷ []; used = d.used ++ token_of o ∷ [] }

-- the orders with one more token of the user used, if there is one
abbrev pub with_token_used : UserName → Option Token → OrdersData → OrdersData
with_token_used user found d = record { live = d.live; used = d.used ++ option_to_list (option_map (key user) found) }

-- the token that a denial by this rule uses
abbrev pub denied_token : RuleName → Request → Option Token
denied_token rule q = if is_answered_rule rule then new_token q else None

-- the token that the denial uses, if it uses one, was not used before
abbrev pub IsUnused : List UserToken → Asked → RuleName → Type 0
IsUnused used a rule = IfSome (denied_token rule a.request) (λ token. IsFalse (is_used used a.user token))

-- the token that the denial uses, if it uses one, is used
abbrev pub marked_by : Asked → RuleName → OrdersData → OrdersData
marked_by a rule orders = with_token_used a.user (denied_token rule a.request) orders

-- a command that ends no order
abbrev pub is_lasting : Action → Bool
is_lasting (Action.Kill account) = false
is_lasting Action.CloseDay = false
is_lasting other = true

-- the orders that the action leaves, in their places
abbrev pub live_left : Action → List LiveOrder → List LiveOrder
live_left (Action.Kill account) live = of_others account live
live_left Action.CloseDay live = []
live_left other live = live

-- the orders that are kept, once a record has done this
abbrev pub orders_moved : Move → OrdersData → OrdersData
orders_moved (Denies a rule) d = marked_by a rule d
orders_moved (Adds new) d = with_order_entered new d
orders_moved (Sizes cut size) d = with_live (cut_at cut.number size d.live) d
orders_moved (Replaces old new) d = with_live (without_number old.number (d.live ++ new ∷ [])) (with_order_entered new d)
orders_moved (Commands officer c) d = with_live (live_left c.action d.live) d
orders_moved (Fills f) d = with_live (filled_at f.maker f.shares (filled_at f.taker f.shares d.live)) d
orders_moved (Rests number) d = with_live (with_order_changed at_rest number d.live) d
orders_moved (Expires number) d = with_live (without_number number d.live) d
orders_moved other d = d
