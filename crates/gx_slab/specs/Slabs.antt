-- Orders in the places that they were put in, seen as those that are live.
use Rattle.std.specs.{Prelude.{ℕ, ◌≡◌, ◌+◌, ◌*◌, ◌<◌, ◌≤◌, Bool, true, false, ◌&&◌, ◌==◌, nat_lt, List, length, map, Option, Some, if◌then◌else◌, slice_get}, List.{filter, filter_map, find, position_or_len}}
use Rattle.gx_units.specs.{Names.same_account, declared.names.AccountName.AccountName}
use Rattle.gx_history.specs.declared.live_order.LiveOrder.{LiveOrder}
pub use Rattle.gx_history.specs.Live.{live_numbered, of_others}

-- some shares may still be executed
abbrev pub is_open : LiveOrder → Bool
is_open o = nat_lt o.done o.total

-- those that have shares open, in their places
abbrev pub open_ones : List LiveOrder → List LiveOrder
open_ones live = filter is_open live

-- the orders of the account, in their places
abbrev pub of_account : AccountName → List LiveOrder → List LiveOrder
of_account account live = filter (λ (o : LiveOrder). same_account account o.account) live

-- the order has this number
abbrev pub has_number : ℕ → LiveOrder → Bool
has_number number o = o.number == number

-- the live order of this number, where it is one of the account
abbrev pub order_of : AccountName → List LiveOrder → ℕ → Option LiveOrder
order_of account live number = find (λ (o : LiveOrder). has_number number o && same_account account o.account) live

-- the live orders of the account that have these numbers, each where its number stands
abbrev pub numbered_of : AccountName → List LiveOrder → List ℕ → List LiveOrder
numbered_of account live numbers = filter_map (order_of account live) numbers

-- the first that waits to be matched
abbrev pub first_waiting : List LiveOrder → Option LiveOrder
first_waiting live = find (λ (o : LiveOrder). o.waits) live

-- the live orders with this one in the place of the one of its number, if that lives; it is gone where nothing of it is open
abbrev pub live_with : LiveOrder → List LiveOrder → List LiveOrder
live_with o live = open_ones (map (λ (x : LiveOrder). if has_number o.number x then o else x) live)

-- the order stands in the book: it waits no more
abbrev pub at_rest : LiveOrder → LiveOrder
at_rest o = record o { waits = false }

-- a row has the live order of this number
abbrev pub stands_for : ℕ → LiveOrder → Bool
stands_for number o = is_open o && has_number number o

-- a row has a live order that waits
abbrev pub is_waiting : LiveOrder → Bool
is_waiting o = is_open o && o.waits

-- where the first live order that waits stands; behind all where none does
abbrev pub first_place : List LiveOrder → ℕ
first_place rows = position_or_len is_waiting rows

-- each live order stands where its number says
abbrev pub IsPlaced : (places : List ℕ) (rows : List LiveOrder) → Type 0
IsPlaced places rows = (i : ℕ) (o : LiveOrder) → slice_get rows i ≡ Some o → is_open o ≡ true → slice_get places o.number ≡ Some i

-- the orders' numbers differ, and there is a place for each
pub record CanBePlaced (places : List ℕ) (rows : List LiveOrder) : Type 0 where
  pub differ : (i k : ℕ) (o p : LiveOrder) → slice_get rows i ≡ Some o → slice_get rows k ≡ Some p → o.number ≡ p.number → i ≡ k
  pub within : (i : ℕ) (o : LiveOrder) → slice_get rows i ≡ Some o → o.number < length places

-- there is a place for the number, and what was found is found
pub record HasRoom (number : ℕ) (before after : List ℕ) : Type 0 where
  pub within : number < length after
  pub kept : (n i : ℕ) → slice_get before n ≡ Some i → slice_get after n ≡ Some i

-- at most half of the rows, and 32 more, are of orders that have ended
abbrev pub IsDense : (rows : List LiveOrder) (live : ℕ) → Type 0
IsDense rows live = length rows ≤ 2 * live + 32

-- each live order is found by its number, the live ones are counted, the first that waits is at hand, and few rows are of orders that have ended
pub record IsTable (places : List ℕ) (rows : List LiveOrder) (live first : ℕ) : Type 0 where
  pub placed : IsPlaced places rows
  pub counted : live ≡ length (open_ones rows)
  pub at_first : first ≡ first_place rows
  pub dense : IsDense rows live
