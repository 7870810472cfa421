-- One side of a stock: the orders that rest there, the better price first, and at one price the earlier first.
use Rattle.std.specs.{Prelude.{◌≡◌, ◌<◌, ◌-◌, ℕ, Bool, true, not, ◌&&◌, ◌==◌, nat_lt, List, [], ◌∷◌, map, if◌then◌else◌}, List.{AllByRecursion, filter, list_all}}
use Rattle.gx_units.specs.{Names.same_account, declared.names.AccountName.AccountName}
use Rattle.gx_policy.specs.Lists.{inserted_behind}
use Rattle.gx_book.specs.Resting.{RestingData}

-- the first order has the better price, on this side, true for buys
abbrev pub is_better : Bool → RestingData → RestingData → Bool
is_better buy a b = if buy then nat_lt b.price a.price else nat_lt a.price b.price

-- the order has this number
abbrev pub is_numbered : ℕ → RestingData → Bool
is_numbered number r = r.order == number

-- two orders of one number and one price
abbrev pub is_same : RestingData → RestingData → Bool
is_same a b = a.order == b.order && a.price == b.price

-- the order is the account's
abbrev pub is_resting_of : AccountName → RestingData → Bool
is_resting_of account r = same_account r.account account

-- the order is behind all of equal or better price
abbrev pub with_order : Bool → RestingData → List RestingData → List RestingData
with_order buy r orders = inserted_behind (is_better buy) orders r

-- the order is taken out
abbrev pub without_order : RestingData → List RestingData → List RestingData
without_order order orders = filter (λ r. not (is_same order r)) orders

-- the order with so many shares, where it stands
abbrev pub with_open_shares : RestingData → ℕ → List RestingData → List RestingData
with_open_shares order shares orders = map (λ (r : RestingData). if is_same order r then record r { shares = shares } else r) orders

-- so many shares of the order are left: it stays where it stands, or goes where none are
abbrev pub left_with : RestingData → ℕ → List RestingData → List RestingData
left_with order shares orders = if nat_lt 0 shares then with_open_shares order shares orders else without_order order orders

-- so many shares taken from the first order; it goes where none are left
abbrev pub taken_from_first : ℕ → List RestingData → List RestingData
taken_from_first shares [] = []
taken_from_first shares (r ∷ rs) = left_with r (r.shares - shares) (r ∷ rs)

-- the account's orders are taken out, and the others stay in their order
abbrev pub without_account : AccountName → List RestingData → List RestingData
without_account account orders = filter (λ r. not (is_resting_of account r)) orders

-- no order is left
abbrev pub no_orders : List RestingData → List RestingData
no_orders orders = []

-- the order has the highest number of its price
abbrev pub IsLatest : RestingData → List RestingData → Type 0
IsLatest added orders = AllByRecursion (λ (r : RestingData). r.price ≡ added.price → r.order < added.order) orders

-- no order has a better price than one before it
abbrev pub is_in_order : Bool → List RestingData → Bool
is_in_order buy [] = true
is_in_order buy (r ∷ rs) = list_all (λ later. not (is_better buy later r)) rs && is_in_order buy rs
