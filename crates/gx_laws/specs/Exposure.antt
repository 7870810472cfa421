-- What accounts have open and executed in all, and what the rules that limit it keep.
use Rattle.gx_policy.specs.{declared.{kinds.ExposureLimit.ExposureLimit, policy.{Count.Count, FileRule.FileRule, PolicyData.PolicyData, RuleKind.RuleKind}}, People.covers}
use Rattle.std.specs.{Prelude.{ℕ, ◌+◌, ◌-◌, ◌≤◌, ◌≡◌, Bool, IsTrue, List, [], ◌∷◌, ◌++◌, length, drop, sum_by, if◌then◌else◌}, List.{filter, list_any, AllByRecursion}}
use Rattle.gx_units.specs.{Money.value, declared.names.AccountName.AccountName}
use Rattle.gx_ouch.specs.declared.outbound.OrderTerms.{OrderTerms}
use Rattle.gx_history.specs.{declared.{facts.StockSide.StockSide, «record».RecordData.RecordData}, Book.is_buy, Executions.{Execution, executions}, Figures.{counts_account, done_of_chosen, done_value, live_value, of_accounts, on_side, open_of_chosen, other_side, side_done}, InForce.rules_in_force, Live.live, Orders.{Order, orders, orders_added}}

-- the open shares of the orders that are chosen, and those that they executed
abbrev pub shares_of_chosen : PolicyData → List RecordData → (AccountName → OrderTerms → Bool) → ℕ
shares_of_chosen policy history chosen = open_of_chosen (live policy history) chosen + done_of_chosen (executions policy history) chosen

-- those of these accounts
abbrev pub gross_shares : PolicyData → List RecordData → (AccountName → Bool) → ℕ
gross_shares policy history among = shares_of_chosen policy history (of_accounts among)

-- those of these accounts on one side of a stock
abbrev pub side_shares : PolicyData → List RecordData → (AccountName → Bool) → StockSide → ℕ
side_shares policy history among side = shares_of_chosen policy history (on_side among side)

-- the value of their open shares at the prices of their orders, and of those that they executed at the prices of the fills
abbrev pub gross_value : PolicyData → List RecordData → (AccountName → Bool) → ℕ
gross_value policy history among = live_value (live policy history) among + done_value (executions policy history) among

-- what a sell got above its own price
abbrev pub gain_of_sell : Execution → ℕ
gain_of_sell e = if is_buy e.order.terms.side then 0 else value e.fill.shares (e.fill.price - e.order.terms.price)

-- what the sells of these accounts got above their own prices
unfoldable pub gains_of_sells : List Execution → (AccountName → Bool) → ℕ
gains_of_sells made among = sum_by gain_of_sell (filter (λ (e : Execution). among e.order.account) made)

-- the executions after these records
abbrev pub executions_after : PolicyData → List RecordData → List RecordData → List Execution
executions_after policy earlier history = drop (length (executions policy earlier)) (executions policy history)

-- the order, as it was granted, is one of those that are chosen
abbrev pub is_such : (AccountName → OrderTerms → Bool) → Order → Bool
is_such chosen grant = chosen grant.account grant.terms

-- the record grants an order that is chosen, and no later record does
pub record IsLastGrant (policy : PolicyData) (chosen : AccountName → OrderTerms → Bool) (before : List RecordData) (r : RecordData) (after : List RecordData) : Type 0 where
  pub is_granted : IsTrue (list_any (is_such chosen) (orders_added policy (orders policy before) r))
  pub is_last : filter (is_such chosen) (orders policy (before ++ r ∷ after)) ≡ filter (is_such chosen) (orders policy (before ++ r ∷ []))

-- The rule limits the shares of an account of its scope, or of all of them together: after their last grant they have no more.
abbrev pub KeepsShares : PolicyData → List RecordData → RecordData → List RecordData → FileRule → Type 0
KeepsShares policy before r after rule = (limit : ℕ) (count : Count) (account : AccountName)
    → rule.kind ≡ RuleKind.Exposure ExposureLimit.GrossShares limit count → IsTrue (covers rule.scope account)
    → let among = counts_account count rule.scope account in
    IsLastGrant policy (of_accounts among) before r after → gross_shares policy (before ++ r ∷ after) among ≤ limit

-- The rule limits the value of an account of its scope, or of all of them together: after their last grant they have no
-- more, but for what their sells have got above their own prices since.
abbrev pub KeepsValue : PolicyData → List RecordData → RecordData → List RecordData → FileRule → Type 0
KeepsValue policy before r after rule = (limit : ℕ) (count : Count) (account : AccountName)
    → rule.kind ≡ RuleKind.Exposure ExposureLimit.GrossValue limit count → IsTrue (covers rule.scope account)
    → let among = counts_account count rule.scope account in
    IsLastGrant policy (of_accounts among) before r after
    → gross_value policy (before ++ r ∷ after) among ≤ limit + gains_of_sells (executions_after policy (before ++ r ∷ []) (before ++ r ∷ after)) among

-- The rule limits what an account of its scope, or all of them together, have on one side of a stock: after their last
-- grant there it is no more than the limit and what they executed on the other side.
abbrev pub KeepsNet : PolicyData → List RecordData → RecordData → List RecordData → FileRule → Type 0
KeepsNet policy before r after rule = (limit : ℕ) (count : Count) (account : AccountName) (side : StockSide)
    → rule.kind ≡ RuleKind.Exposure ExposureLimit.NetShares limit count → IsTrue (covers rule.scope account)
    → let among = counts_account count rule.scope account in
    IsLastGrant policy (on_side among side) before r after
    → side_shares policy (before ++ r ∷ after) among side ≤ limit + side_done (executions policy (before ++ r ∷ after)) among (other_side side)

-- each rule that was in force at a record keeps the shares of accounts whose last grant it was
abbrev pub SharesStayWithin : PolicyData → List RecordData → Type 0
SharesStayWithin policy history = (before after : List RecordData) (r : RecordData)
    → history ≡ before ++ r ∷ after → AllByRecursion (KeepsShares policy before r after) (rules_in_force policy before)

-- and their value
abbrev pub ValuesStayWithin : PolicyData → List RecordData → Type 0
ValuesStayWithin policy history = (before after : List RecordData) (r : RecordData)
    → history ≡ before ++ r ∷ after → AllByRecursion (KeepsValue policy before r after) (rules_in_force policy before)

-- and their net position
abbrev pub NetStaysWithin : PolicyData → List RecordData → Type 0
NetStaysWithin policy history = (before after : List RecordData) (r : RecordData)
    → history ≡ before ++ r ∷ after → AllByRecursion (KeepsNet policy before r after) (rules_in_force policy before)

-- no order that is chosen was granted
abbrev pub NoneIsGranted : PolicyData → List RecordData → (AccountName → OrderTerms → Bool) → Type 0
NoneIsGranted policy history chosen = filter (is_such chosen) (orders policy history) ≡ []

-- the accounts have nothing open and nothing executed
pub record HasNothing (policy : PolicyData) (history : List RecordData) (among : AccountName → Bool) : Type 0 where
  pub no_shares : gross_shares policy history among ≡ 0
  pub no_value : gross_value policy history among ≡ 0
