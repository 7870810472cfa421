-- What the orders of a side stand under.
use Rattle.std.specs.{Prelude.{ℕ, Bool, ◌+◌, ◌-◌, ◌&&◌, ◌==◌, List, map, if◌then◌else◌}, List.list_all}
use Rattle.gx_book.specs.{declared.resting.KeptOrder.KeptOrder, Resting.RestingData, Queue.is_numbered}

-- the rank of a price on a side, true for buys: the better the price, the lower the rank
abbrev pub is_rank : Bool → ℕ → ℕ → Bool
is_rank buy price rank = if buy then price + rank == 4294967295 else price == rank

-- the order stands under the rank of its price and its number
abbrev pub is_keyed : Bool → (ℕ × ℕ) × RestingData → Bool
is_keyed buy entry = is_rank buy entry.1.price entry.0.0 && is_numbered entry.0.1 entry.1

-- each order does
abbrev pub are_keyed : Bool → List ((ℕ × ℕ) × RestingData) → Bool
are_keyed buy entries = list_all (is_keyed buy) entries

-- the price of a rank
abbrev pub price_at : Bool → ℕ → ℕ
price_at buy rank = if buy then 4294967295 - rank else rank

-- the order of this number and this price of which that is kept
abbrev pub resting_of_kept : ℕ → ℕ → KeptOrder → RestingData
resting_of_kept order price kept = record {
  order = order;
  account = kept.order.value.account;
  user = kept.order.value.user;
  price = price;
  shares = kept.shares;
}

-- what is kept under a rank and a number: the order that is meant
abbrev pub order_at : Bool → (ℕ × ℕ) × KeptOrder → (ℕ × ℕ) × RestingData
order_at buy entry = (entry.0, resting_of_kept entry.0.1 (price_at buy entry.0.0) entry.1)

-- all that are meant
abbrev pub orders_at : Bool → List ((ℕ × ℕ) × KeptOrder) → List ((ℕ × ℕ) × RestingData)
orders_at buy entries = map (order_at buy) entries
