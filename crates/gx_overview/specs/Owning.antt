-- What is noted of one more order.
use Rattle.std.specs.{Prelude.{◌≡◌, ℕ, ◌&&◌, List, ◌++◌, Some, None, nat_eq, if◌then◌else◌}, Option.option_or, Map.lookup}
use Rattle.gx_units.specs.{Names.{same_token, same_user}, declared.names.{Token.Token, UserName.UserName}}
use Rattle.gx_history.specs.{declared.live_order.UserToken.UserToken, Orders.Order}
use Rattle.gx_overview.specs.{declared.owners.{Owner.Owner, Owners.Owners}, Executed.{KnowOrders, is_key}}

-- the number has this owner now, unless it had one
abbrev pub IsOwnerNumbered : ℕ → Owner → List (ℕ × Owner) → List (ℕ × Owner) → Type 0
IsOwnerNumbered number owner old new = (n : ℕ) → lookup (nat_eq n) new ≡ option_or (lookup (nat_eq n) old) (if nat_eq number n then Some owner else None)

-- and the token has it
pub record IsOneMore (number : ℕ) (key : UserToken) (owner : Owner) (old new : Owners) : Type 0 where
  pub numbered : IsOwnerNumbered number owner old.by_number.entries new.by_number.entries
  pub under : (user : UserName) (token : Token) → lookup (is_key user token) new.by_token.entries
      ≡ (if same_user key.user user && same_token key.token token then Some owner else lookup (is_key user token) old.by_token.entries)

-- of any orders that were known, these are known behind them
abbrev pub Learn : Owners → Owners → (List Order → List Order) → Type 0
Learn old new added = (known : List Order) → KnowOrders old known → KnowOrders new (known ++ added known)
