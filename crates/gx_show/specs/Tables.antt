-- How orders are found in tables.
use Rattle.gx_history.specs.{LiveOrders.{same_user_token, key}, declared.live_order.UserToken.UserToken}
use Rattle.std.specs.{Prelude.{◌≡◌, ℕ, List, nat_eq, Some, if◌then◌else◌}, Option.option_or, Map.lookup}
use Rattle.gx_units.specs.{declared.names.{Token.Token, UserName.UserName}}
use Rattle.gx_show.specs.{declared.known_order.KnownOrder.KnownOrder, Known.{has_known_number, is_known_under, known_numbered, known_order_under}}
use Rattle.gx_policy.specs.Lists.{where_true}

-- each order that is looked for is found, by its number and by its token
pub record AreFound (known : List KnownOrder) (by_number : List (ℕ × KnownOrder)) (by_token : List (UserToken × KnownOrder)) : Type 0 where
  pub numbers : (number : ℕ) → lookup (nat_eq number) by_number ≡ known_numbered known number
  pub tokens : (user : UserName) (token : Token) → lookup (same_user_token (key user token)) by_token ≡ known_order_under known user token

-- the order is found by its number, unless another was; what is found by other numbers stays
abbrev pub FindsNumber : KnownOrder → (before after : List (ℕ × KnownOrder)) → Type 0
FindsNumber o before after = (number : ℕ) → lookup (nat_eq number) after ≡ option_or (lookup (nat_eq number) before) (where_true (has_known_number number o) o)

-- the order is found by its token; what is found by other tokens stays
abbrev pub FindsToken : KnownOrder → (before after : List (UserToken × KnownOrder)) → Type 0
FindsToken o before after =
    (user : UserName) (token : Token) → lookup (same_user_token (key user token)) after ≡ (if is_known_under user token o then Some o else lookup (same_user_token (key user token)) before)
