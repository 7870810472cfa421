-- How the tables of the live orders hang together.
use Rattle.std.specs.{Prelude.{◌≡◌, ℕ, ◌+◌, ◌-◌, ◌<◌, ◌≤◌, Bool, not, ◌&&◌, List, [], ◌∷◌, ◌++◌, length, Some, is_some, unwrap_or, if◌then◌else◌}, List.{filter, AllByRecursion}, Map.{keys_of, lookup}}
use Rattle.gx_units.specs.{Names.{same_account, same_user}, declared.names.{AccountName.AccountName, UserName.UserName}}
use Rattle.gx_history.specs.{declared.live_order.{LiveOrder.LiveOrder, UserToken.UserToken}, LiveOrders.{token_of, is_of_user, same_user_token}}
use Rattle.gx_slab.specs.Slabs.{numbered_of, order_of}
use Rattle.gx_orders.specs.LiveOrders.{OrdersData, NumbersRise, IsOpen, has_number, of_account}

-- what the tables stand for
abbrev pub orders_shown : List LiveOrder → List (UserToken × ℕ) → OrdersData
orders_shown live tokens = record { live = live; used = keys_of tokens }

-- the order is the one that was entered under its token
abbrev pub IsIndexed : List (UserToken × ℕ) → LiveOrder → Type 0
IsIndexed tokens o = lookup (same_user_token (token_of o)) tokens ≡ Some o.number

-- the numbers rise, and each order has shares open and is found by its token
pub record AreTied (live : List LiveOrder) (tokens : List (UserToken × ℕ)) : Type 0 where
  pub rise : NumbersRise live
  pub all_open : AllByRecursion IsOpen live
  pub all_indexed : AllByRecursion (IsIndexed tokens) live

-- how many orders are counted of the user
abbrev pub counted_of : List (UserName × ℕ) → UserName → ℕ
counted_of counts user = unwrap_or (lookup (same_user user) counts) 0

-- how many of the orders are the user's
abbrev pub orders_of : UserName → List LiveOrder → ℕ
orders_of user live = length (filter (is_of_user user) live)

-- each user's orders are counted
abbrev pub AreCounted : List (UserName × ℕ) → List LiveOrder → Type 0
AreCounted counts live = (user : UserName) → counted_of counts user ≡ orders_of user live

-- no order is counted of anybody
abbrev pub CountsNone : List (UserName × ℕ) → Type 0
CountsNone counts = (user : UserName) → counted_of counts user ≡ 0

-- one order more of the user is counted
abbrev pub CountsOneMore : UserName → (before after : List (UserName × ℕ)) → Type 0
CountsOneMore user before after = (other : UserName) → counted_of after other ≡ counted_of before other + (if same_user user other then 1 else 0)

-- one order less of the user is counted
abbrev pub CountsOneLess : UserName → (before after : List (UserName × ℕ)) → Type 0
CountsOneLess user before after = (other : UserName) → counted_of after other ≡ counted_of before other - (if same_user user other then 1 else 0)

-- the numbers that are listed of the account
abbrev pub listed_of : List (AccountName × List ℕ) → AccountName → List ℕ
listed_of lists account = unwrap_or (lookup (same_account account) lists) []

-- no number is listed of any account
abbrev pub ListsNone : List (AccountName × List ℕ) → Type 0
ListsNone lists = (account : AccountName) → listed_of lists account ≡ []

-- the live orders that have the numbers listed of an account are those of the account, in order
abbrev pub AreListed : List (AccountName × List ℕ) → List LiveOrder → Type 0
AreListed lists live = (account : AccountName) → numbered_of account live (listed_of lists account) ≡ of_account account live

-- the lists give the same live orders
abbrev pub ListsTheSame : List LiveOrder → (before after : List (AccountName × List ℕ)) → Type 0
ListsTheSame live before after = (account : AccountName) → numbered_of account live (listed_of after account) ≡ numbered_of account live (listed_of before account)

-- once the order lives, the lists give it too, behind the others of its account
abbrev pub ListsOneMore : LiveOrder → List LiveOrder → (before after : List (AccountName × List ℕ)) → Type 0
ListsOneMore o live before after =
    (account : AccountName)
    → numbered_of account (live ++ o ∷ []) (listed_of after account) ≡ numbered_of account live (listed_of before account) ++ of_account account (o ∷ [])

-- the order of this number is live, and one of the account
abbrev pub is_live_of : AccountName → List LiveOrder → ℕ → Bool
is_live_of account live number = is_some (order_of account live number)

-- the numbers are below this one
abbrev pub NumbersBelow : ℕ → List ℕ → Type 0
NumbersBelow number numbers = AllByRecursion (λ (n : ℕ). n < number) numbers

-- none of the numbers is above this one
abbrev pub NumbersUpTo : ℕ → List ℕ → Type 0
NumbersUpTo highest numbers = AllByRecursion (λ (n : ℕ). n ≤ highest) numbers

-- all but the order of this number, where it is one of the account
abbrev pub without_of : AccountName → ℕ → List LiveOrder → List LiveOrder
without_of account number live = filter (λ (o : LiveOrder). not (has_number number o && same_account account o.account)) live

-- the numbers rise, each order has shares open, and each user's orders are counted
pub record CanEnd (live : List LiveOrder) (counts : List (UserName × ℕ)) : Type 0 where
  pub rise : NumbersRise live
  pub all_open : AllByRecursion IsOpen live
  pub counted : AreCounted counts live

-- the tables hang together, each user's orders are counted, and each account's are listed
pub record AreHeld (live : List LiveOrder) (tokens : List (UserToken × ℕ)) (counts : List (UserName × ℕ)) (lists : List (AccountName × List ℕ)) : Type 0 where
  pub tied : AreTied live tokens
  pub counted : AreCounted counts live
  pub listed : AreListed lists live
