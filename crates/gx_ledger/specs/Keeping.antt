-- What the ledger keeps, and what each change makes of it.
use Rattle.std.specs.{Option.option_map_or, Prelude.{ℕ, Bool, List, map, Option, unwrap_or, if◌then◌else◌}, Map.lookup}
use Rattle.gx_units.specs.{Names.same_stock, declared.names.{AccountName.AccountName, Symbol.Symbol}}
use Rattle.gx_history.specs.{declared.{live_order.LiveOrder.LiveOrder, «record».Request.Request}, Figures.stock_asked}
use Rattle.gx_policy.specs.declared.policy.Stock.{Stock}
use Rattle.gx_ledger.specs.{Changes.Change, declared.{change.ChangeKind.ChangeKind, tally.Tally.Tally}, Accounts.account_place, Tallies.tally_after}

-- what a ledger keeps
pub record LedgerData : Type 0 where
  -- the accounts, in the policy's order
  pub accounts : List AccountName
  -- the last price of each stock
  pub prices : List (Symbol × ℕ)
  -- what each rule of the file counts, in the file's order
  pub tallies : List Tally

-- the last price of the stock; 0 where it is not listed
abbrev pub price_of : List (Symbol × ℕ) → Symbol → ℕ
price_of prices stock = unwrap_or (lookup (same_stock stock) prices) 0

-- each stock at its reference price
abbrev pub reference_prices : List Stock → List (Symbol × ℕ)
reference_prices stocks = map (λ (s : Stock). (s.name, s.reference)) stocks

-- the prices, that of this stock changed
abbrev pub prices_with : Symbol → ℕ → List (Symbol × ℕ) → List (Symbol × ℕ)
prices_with stock price prices = map (λ (e : Symbol × ℕ). (e.0, if same_stock stock e.0 then price else e.1)) prices

-- what is counted, after the change of an order of an account that has this place in the policy
abbrev pub tallies_after : Change → Option ℕ → List Tally → List Tally
tallies_after change place tallies = map (tally_after change place) tallies

-- what is kept after the change
abbrev pub data_after : Change → LedgerData → LedgerData
data_after change k = record {
  accounts = k.accounts;
  prices = k.prices;
  tallies = tallies_after change (account_place k.accounts change.order.account) k.tallies;
}

-- the order comes, granted at the moment to a Replace or to an Enter
abbrev pub comes : LiveOrder → ℕ → Bool → Change
comes o moment replacement = record { order = o; kind = ChangeKind.Accepted moment replacement }

-- so many shares of the order are open no more
abbrev pub leaves : LiveOrder → ℕ → Change
leaves o shares = record { order = o; kind = ChangeKind.Left shares }

-- so many open shares of the order were executed at this price
abbrev pub is_filled : LiveOrder → ℕ → ℕ → Change
is_filled o shares price = record { order = o; kind = ChangeKind.Filled shares price }

-- the last price of one stock changed
abbrev pub with_price : Symbol → ℕ → LedgerData → LedgerData
with_price stock price k = record { accounts = k.accounts; prices = prices_with stock price k.prices; tallies = k.tallies }

-- the last price of the stock of an Enter, or of the order that would be replaced
abbrev pub reference_for : List (Symbol × ℕ) → Request → Option LiveOrder → ℕ
reference_for prices q replaced = option_map_or (price_of prices) (stock_asked q replaced) 0
