-- The relation between what a ledger keeps and the live orders, fills and grants that it stands for.
use Rattle.std.specs.{Prelude.{ℕ, ◌≡◌, ◌+◌, ◌-◌, ◌&&◌, Bool, true, false, List, [], ◌∷◌, map, Option, Some, None, is_none, is_some, IsFalse, IsTrue}, List.{filter, AllByRecursion}}
use Rattle.circular_buffer.specs.Buffer.{Buffer, buffer}
use Rattle.gx_units.specs.{Names.same_account, declared.names.{AccountName.AccountName, Symbol.Symbol}}
use Rattle.gx_history.specs.{declared.{live_order.LiveOrder.LiveOrder, «record».{Fill.Fill, Request.Request}}, Executions.Execution, Figures.{Positions, figures, live_shares, live_value, done_shares, done_value, reference, side_done, side_live}, Live.live_numbered, LiveOrders.shares_open, Orders.Order, Rules.rules_with_figures, Verdicts.with_figures, Turns.Turn}
use Rattle.gx_policy.specs.{declared.policy.{Count.Count, FileRule.FileRule, PolicyData.PolicyData, Scope.Scope, Stock.Stock}, Lists.{are_distinct, last_few}, People.{account_named, covers, stock_named}}
use Rattle.gx_history.specs.Turns as turns
use Rattle.gx_laws.specs.{Changing.positions_with, Sound.{AreSound, IsOf, MayCome, MayFillHeld}}
use Rattle.gx_ledger.specs.{declared.{figure_kind.FigureKind.FigureKind, group.{RepeatKey.RepeatKey, Group.Group}, sides.StockSums.StockSums, sums.Sums.Sums, tally.Tally.Tally}, Accounts.account_names, Keeping.LedgerData, Tallies.{asks_of, count_of, seats_for, tells_reference}, FiguresAsked.{Asking, figures_at}}

-- the shares of these accounts
abbrev pub shares_among : Positions → (AccountName → Bool) → Sums
shares_among held among = record { live = live_shares held.live among; done = done_shares held.executions among }

-- their value
abbrev pub value_among : Positions → (AccountName → Bool) → Sums
value_among held among = record { live = live_value held.live among; done = done_value held.executions among }

-- the shares of these accounts on one side of a stock
abbrev pub side_sums_of : Positions → (AccountName → Bool) → Symbol → Bool → Sums
side_sums_of held among stock buys = record {
  live = side_live held.live among (record { stock = stock; buys = buys });
  done = side_done held.executions among (record { stock = stock; buys = buys });
}

-- the moments of all orders of these accounts
abbrev pub moments_of : List Order → (AccountName → Bool) → List ℕ
moments_of grants among = map (λ (o : Order). o.moment) (filter (λ (o : Order). among o.account) grants)

-- what the order has in common with like ones
abbrev pub entered_of : Order → RepeatKey
entered_of o = record { side = o.terms.side; shares = o.terms.shares; stock = o.terms.stock; price = o.terms.price }

-- the Enters of these accounts
abbrev pub enters_of : List Order → (AccountName → Bool) → List RepeatKey
enters_of grants among = map entered_of (filter (λ (o : Order). among o.account && is_none o.previous_token) grants)

-- all that counts of the orders and fills of some accounts
pub record Total : Type 0 where
  pub shares : Sums
  pub value : Sums
  -- of all orders
  pub moments : List ℕ
  pub enters : List RepeatKey
  -- by stock, and whether of its buys
  pub sides : Symbol → Bool → Sums

-- what counts of these accounts
abbrev pub total_of : Positions → (AccountName → Bool) → Total
total_of held among = record { shares = shares_among held among; value = value_among held among; moments = moments_of held.grants among; enters = enters_of held.grants among; sides = side_sums_of held among }

-- a ring of the last n
abbrev pub ring : {X : Type 0} → ℕ → List X → Buffer X
ring n xs = buffer (last_few n xs) n

-- the sums of both sides of a stock
abbrev pub both_sides : (Symbol → Bool → Sums) → Symbol → StockSums
both_sides sides stock = record { buys = sides stock true; sells = sides stock false }

-- the sums of each of these stocks
abbrev pub sides_of : (Symbol → Bool → Sums) → List Stock → List (Symbol × StockSums)
sides_of sides stocks = map (λ (s : Stock). (s.name, both_sides sides s.name)) stocks

-- what a group of a rule keeps of that
abbrev pub group_of : List Stock → FigureKind → Total → Group
group_of stocks FigureKind.Shares total = Group.Shares total.shares
group_of stocks FigureKind.Value total = Group.Value total.value
group_of stocks FigureKind.Sides total = Group.Sides (sides_of total.sides stocks)
group_of stocks (FigureKind.Recent rate) total = Group.Recent rate.window (ring rate.limit total.moments)
group_of stocks (FigureKind.Alike repeat) total = Group.Enters (ring repeat.span total.enters)
group_of stocks FigureKind.Reference total = Group.Nothing
group_of stocks FigureKind.Nothing total = Group.Nothing

-- the accounts of each group of a rule: one group for each account of the policy, or one for all in scope
abbrev pub members_of : Option Count → Scope → List AccountName → List (AccountName → Bool)
members_of None scope accounts = []
members_of (Some Count.Each) scope accounts = map (λ (name : AccountName). λ account. covers scope account && same_account name account) accounts
members_of (Some Count.Together) scope accounts = covers scope ∷ []

-- what a rule counts
abbrev pub tally_of : List Stock → List AccountName → ((AccountName → Bool) → Total) → FileRule → Tally
tally_of stocks accounts totals rule = record {
  scope = rule.scope;
  tells_reference = tells_reference rule.kind;
  count = count_of rule.kind;
  seats = seats_for rule.scope (count_of rule.kind) accounts;
  groups = map (λ (among : AccountName → Bool). group_of stocks (asks_of rule.kind) (totals among)) (members_of (count_of rule.kind) rule.scope accounts);
}

-- the price of each stock: that of its last fill, or the file's
abbrev pub prices_of : PolicyData → Positions → List (Symbol × ℕ)
prices_of policy held = map (λ (s : Stock). (s.name, reference policy held.executions s.name)) policy.stocks

-- the fill was made in a stock of the policy
abbrev pub IsMadeIn : PolicyData → Execution → Type 0
IsMadeIn policy e = IsTrue (is_some (stock_named policy e.order.terms.stock))

-- The ledger, opened on the policy, keeps the figures of these live orders, fills and grants.
pub record StandsFor (policy : PolicyData) (k : LedgerData) (held : Positions) : Type 0 where
  pub accounts : k.accounts ≡ account_names policy.accounts
  pub accounts_differ : IsTrue (are_distinct same_account k.accounts)
  pub prices : k.prices ≡ prices_of policy held
  -- nothing was filled in any other stock
  pub unlisted : (stock : Symbol) → IsFalse (is_some (stock_named policy stock)) → reference policy held.executions stock ≡ 0
  pub all_made : AllByRecursion (IsMadeIn policy) held.executions
  pub tallies : k.tallies ≡ map (tally_of policy.stocks k.accounts (total_of held)) policy.rules

-- the order that was handed in was granted so, at this time, to a Replace or to an Enter
pub record IsAccepted (o : LiveOrder) (time : ℕ) (replaces : Bool) (grant : Order) : Type 0 where
  pub is_of : IsOf o grant
  pub moment : grant.moment ≡ time
  -- a Replace names the token of the order that it replaces
  pub replacement : is_some grant.previous_token ≡ replaces

-- a live order is the one that was handed in
abbrev pub IsHeld : Positions → LiveOrder → Type 0
IsHeld held o = live_numbered held.live o.number ≡ Some o

-- Over all live orders, fills and grants that the old ledger stands for and that may be turned so, with these orders
-- granted, the new one stands for what the turn makes of them.
abbrev pub Carries : LedgerData → LedgerData → (PolicyData → Positions → Type 0) → Turn → List Order → Type 0
Carries old new may turn granted = (policy : PolicyData) (held : Positions) → StandsFor policy old held → AreSound policy held → may policy held
    → AreSound policy (positions_with turn granted held) → StandsFor policy new (positions_with turn granted held)

-- one more order, granted in whatever way that it can have been
abbrev pub Accepts : LiveOrder → ℕ → Bool → LedgerData → LedgerData → Type 0
Accepts o moment replacement old new = (grant : Order) → IsAccepted o moment replacement grant
    → Carries old new (λ policy held. MayCome policy held o (grant ∷ [])) (turns.Adds o) (grant ∷ [])

-- the order is live, and with this size it has so many fewer shares open
pub record IsCut (held : Positions) (o : LiveOrder) (shares size : ℕ) : Type 0 where
  pub is_held : IsHeld held o
  pub is_less : (size - o.done) + shares ≡ shares_open o

-- so many of a live order's open shares are open no more
abbrev pub Cuts : LiveOrder → ℕ → LedgerData → LedgerData → Type 0
Cuts o shares old new = (size : ℕ) → Carries old new (λ policy held. IsCut held o shares size) (turns.Sizes o.number size) []

-- a live order ends
abbrev pub Closes : LiveOrder → LedgerData → LedgerData → Type 0
Closes o old new = Carries old new (λ policy held. IsHeld held o) (turns.Ends o.number) []

-- both orders are live, and the fill between them may be
pub record AreFilled (held : Positions) (taker maker : LiveOrder) (f : Fill) : Type 0 where
  pub taker_is_held : IsHeld held taker
  pub maker_is_held : IsHeld held maker
  pub may_fill : MayFillHeld held f

-- a fill between two live orders
abbrev pub Fills : LiveOrder → LiveOrder → ℕ → ℕ → LedgerData → LedgerData → Type 0
Fills taker maker shares price old new =
    let f : Fill = record { taker = taker.number; maker = maker.number; shares = shares; price = price } in
    Carries old new (λ policy held. AreFilled held taker maker f) (turns.Fills f) []

-- For an account of the policy, what is told are the figures of the policy's rules, over all live orders, fills and grants
-- that the ledger stands for.
abbrev pub GivesFigures : LedgerData → AccountName → Request → Option LiveOrder → ℕ → Asking → Type 0
GivesFigures k account q replaced moment asked = (policy : PolicyData) (held : Positions) → StandsFor policy k held → AreSound policy held
    → IsTrue (is_some (account_named policy account))
    → rules_with_figures (figures_at asked) policy.rules ≡ with_figures (figures policy held account q replaced moment) policy.rules
