-- What is kept of the orders of a day, to tell which order a record speaks of.
use Rattle.std.specs.{Prelude.{ℕ, Bool, ◌&&◌, ◌==◌, List, map, Option, None, option_map, option_and_then}, List.find}
use Rattle.gx_units.specs.{declared.names.{Token.Token, UserName.UserName, AccountName.AccountName}, Names.{same_user, same_token}}
use Rattle.gx_policy.specs.{declared.policy.PolicyData.PolicyData, Lists.last_such, People.account_of}
use Rattle.gx_history.specs.{declared.record.{Asked.Asked, Request.Request, RecordData.RecordData}, Orders.{Order, orders}, Requests.granted_of}
use Rattle.gx_show.specs.declared.known_order.KnownOrder.{KnownOrder}

-- what is kept of an order
abbrev pub known_of : Order → KnownOrder
known_of o = record { number = o.number; user = o.user; account = o.account; token = o.token; stock = o.terms.stock }

-- and of all orders that these records made
unfoldable pub known_orders : PolicyData → List RecordData → List KnownOrder
known_orders policy history = map known_of (orders policy history)

-- the order has this number
abbrev pub has_known_number : ℕ → KnownOrder → Bool
has_known_number number o = o.number == number

-- the order is one of the user, and was asked for under the token
abbrev pub is_known_under : UserName → Token → KnownOrder → Bool
is_known_under user token o = same_user o.user user && same_token o.token token

-- the order of this number
abbrev pub known_numbered : List KnownOrder → ℕ → Option KnownOrder
known_numbered known number = find (has_known_number number) known

-- the last order of the user under the token
abbrev pub known_order_under : List KnownOrder → UserName → Token → Option KnownOrder
known_order_under known user token = last_such (is_known_under user token) known

-- the order that a granted request makes, where these were made before
abbrev pub made_by : PolicyData → List KnownOrder → ℕ → UserName → Request → Option KnownOrder
made_by policy known number user (Request.Enter m) =
    option_map (λ (account : AccountName). record { number = number; user = user; account = account; token = m.token; stock = m.stock }) (account_of policy user)
made_by policy known number user (Request.Replace m) =
    option_map (λ (o : KnownOrder). record { number = number; user = o.user; account = o.account; token = m.replacement_token; stock = o.stock })
    (known_order_under known user m.existing_token)
made_by policy known number user other = None

-- the order that the record makes
abbrev pub order_made : PolicyData → List KnownOrder → RecordData → Option KnownOrder
order_made policy known r = option_and_then (λ (a : Asked). made_by policy known r.number a.user a.request) (granted_of r)
