-- What is kept of one live order.
use Rattle.std.specs.Prelude.{ℕ, ◌-◌, Bool, true, ◌&&◌}
use Rattle.gx_units.specs.{declared.names.{Token.Token, UserName.UserName}, Names.{same_user, same_token}}
use Rattle.gx_ouch.specs.declared.{inbound.ReplaceOrder.ReplaceOrder, outbound.OrderTerms.OrderTerms}
use Rattle.gx_history.specs.declared.{live_order.{LiveOrder.LiveOrder, UserToken.UserToken}, «record».RecordData.RecordData}

-- the shares that may still be executed
abbrev pub shares_open : LiveOrder → ℕ
shares_open o = o.total - o.done

-- a token of the user
abbrev pub key : UserName → Token → UserToken
key user token = record { user = user; token = token }

-- the same user, and the same token
abbrev pub same_user_token : UserToken → UserToken → Bool
same_user_token a b = same_user a.user b.user && same_token a.token b.token

-- the user and the token that the order was asked for under
abbrev pub token_of : LiveOrder → UserToken
token_of o = key o.user o.token

-- the order is the user's
abbrev pub is_of_user : UserName → LiveOrder → Bool
is_of_user user o = same_user o.user user

-- an order of the user under the token
abbrev pub is_under : UserName → Token → LiveOrder → Bool
is_under user token o = same_user o.user user && same_token o.token token

-- the terms of an order that is replaced
abbrev pub terms_then : ReplaceOrder → OrderTerms → OrderTerms
terms_then m terms = record terms {
  shares = m.shares;
  price = m.price;
  time_in_force = m.time_in_force;
  display = m.display;
  intermarket_sweep = m.intermarket_sweep;
  minimum_quantity = m.minimum_quantity;
}

-- the order that replaces o: its chain has executed as much, and it waits
abbrev pub replacement_order : RecordData → ReplaceOrder → LiveOrder → LiveOrder
replacement_order r m o = record {
  number = r.number;
  user = o.user;
  account = o.account;
  token = m.replacement_token;
  terms = terms_then m o.terms;
  total = m.shares;
  done = o.done;
  waits = true;
}
