-- What holds in every legal history.
use Rattle.std.specs.{Prelude.{◌≡◌, ℕ, Bool, IsFalse, IsTrue, ◌+◌, ◌↔◌, List, [], ◌∷◌, ◌++◌, None, Some, option_and_then}, List.{AllByRecursion, filter}}
use Rattle.gx_units.specs.declared.names.{AccountName.AccountName, Symbol.Symbol, Token.Token, UserName.UserName}
use Rattle.gx_policy.specs.{declared.policy.PolicyData.PolicyData, Lists.IsInOrder, People.account_of}
use Rattle.gx_history.specs.{declared.{live_order.LiveOrder.LiveOrder, «record».{Asked.Asked, Fill.Fill, RecordData.RecordData, Step.Step, Verdict.Verdict}}, Executions.executions, InForce.is_killed, Live.{IsAtRest, by_time, has_price, waiting, ahead, is_there, side, live_numbered, live, live_under, open_now}, LiveOrders.shares_open, Matched.{AreUncrossed, HasNoOrders, IsFair}, Matching.matching, Orders.{order_under, orders}, Requests.is_order, Settling.{settled_records, AddsMatches, FillsNoneOf}, Verdicts.{Follows, IsLegal, next}}
use Rattle.gx_laws.specs.Lifts.{EndsKill}

-- the order is for the account that its user trades for
abbrev pub IsOfItsTrader : PolicyData → LiveOrder → Type 0
IsOfItsTrader policy o = account_of policy o.user ≡ Some o.account

-- in a legal history each live order is
abbrev pub LiveOrdersAreOfTheirTraders : Type 0
LiveOrdersAreOfTheirTraders = (policy : PolicyData) (history : List RecordData) → IsLegal policy history → AllByRecursion (IsOfItsTrader policy) (live policy history)

-- in a legal history no live order is of a killed account
abbrev pub KilledAreNotLive : Type 0
KilledAreNotLive = (policy : PolicyData) (history : List RecordData)
    → IsLegal policy history → AllByRecursion (λ (o : LiveOrder). IsFalse (is_killed policy history o.account)) (live policy history)

-- and a killed account has no order that is live, waits or rests
abbrev pub KilledHaveNoOrders : Type 0
KilledHaveNoOrders = (policy : PolicyData) (history : List RecordData) (account : AccountName)
    → IsLegal policy history → IsTrue (is_killed policy history account) → HasNoOrders policy history account

-- a fill is between two live orders that have its shares open
abbrev pub FillsAreFair : Type 0
FillsAreFair = (policy : PolicyData) (history : List RecordData) (handed : ℕ) (r : RecordData) (f : Fill)
    → IsLegal policy history → next policy history (Step.Matching handed) ≡ Some r → r.verdict ≡ Verdict.Filled f → IsFair policy history f

-- no order rests behind one with a worse price
abbrev pub RestingByPrice : Type 0
RestingByPrice = (policy : PolicyData) (history : List RecordData) (stock : Symbol) (buy : Bool) → IsInOrder (ahead buy) (side policy history stock buy)

-- at one price the orders rest in the order in which they came to rest
abbrev pub RestingByTime : Type 0
RestingByTime = (policy : PolicyData) (history : List RecordData) (stock : Symbol) (buy : Bool) (price : ℕ)
    → filter (has_price price) (side policy history stock buy) ≡ filter (has_price price) (by_time policy history stock buy)

-- where nothing waits, settling changes nothing
abbrev pub SettledWhereIdle : Type 0
SettledWhereIdle = (policy : PolicyData) (history : List RecordData) (moment : ℕ) → next policy history (Step.Matching moment) ≡ None → settled_records policy history moment ≡ history

-- and when it has settled, nothing is left to match
abbrev pub SettledLeavesNone : Type 0
SettledLeavesNone = (policy : PolicyData) (history : List RecordData) (moment : ℕ) → IsLegal policy history → matching policy (settled_records policy history moment) ≡ None

-- in a legal history no resting buy crosses a resting sell of its stock
abbrev pub NeverCrossed : Type 0
NeverCrossed = (policy : PolicyData) (history : List RecordData) → IsLegal policy history → AreUncrossed policy history

-- until a Lift no matching steps, however many, fill an order of a killed account
abbrev pub KilledAreNotFilled : Type 0
KilledAreNotFilled = (policy : PolicyData) (history : List RecordData) (account : AccountName) (moment : ℕ)
    → IsLegal policy history → IsTrue (is_killed policy history account) → FillsNoneOf policy history (settled_records policy history moment) account

-- a side of the book has no order but the live ones that rest there
abbrev pub RestingAlone : Type 0
RestingAlone = (policy : PolicyData) (history : List RecordData) (stock : Symbol) (buy : Bool)
    → IsLegal policy history → AllByRecursion (IsAtRest policy history stock buy) (side policy history stock buy)

-- and each of these once, under its number
abbrev pub RestingWhole : Type 0
RestingWhole = (policy : PolicyData) (history : List RecordData) (stock : Symbol) (buy : Bool) → IsLegal policy history
    → AllByRecursion (λ (o : LiveOrder). IsFalse o.waits → IsTrue (is_there stock buy o) → live_numbered (side policy history stock buy) o.number ≡ Some o) (live policy history)

-- settling begins with the matching step that there is
abbrev pub SettledStepByStep : Type 0
SettledStepByStep = (policy : PolicyData) (history : List RecordData) (moment : ℕ) (r : RecordData)
    → IsLegal policy history → next policy history (Step.Matching moment) ≡ Some r → settled_records policy history moment ≡ settled_records policy (history ++ r ∷ []) moment

-- it adds records of matching steps at that moment
abbrev pub SettledByMatches : Type 0
SettledByMatches = (policy : PolicyData) (history : List RecordData) (moment : ℕ) → AddsMatches history (settled_records policy history moment) moment

-- a killed account is killed no longer only by the Lift of the last of as many different officers as the policy asks for, each entitled to it
abbrev pub KillsEndByLifts : Type 0
KillsEndByLifts = (policy : PolicyData) (history : List RecordData) (r : RecordData) (account : AccountName)
    → IsLegal policy history → Follows policy (history, r) → IsTrue (is_killed policy history account) → IsFalse (is_killed policy (history ++ r ∷ []) account)
    → EndsKill policy history account r

-- a matching step leaves no record exactly where no order waits to be matched
abbrev pub IdleWhereNoneWaits : Type 0
IdleWhereNoneWaits = (policy : PolicyData) (history : List RecordData) (handed : ℕ)
    → next policy history (Step.Matching handed) ≡ None ↔ waiting policy history ≡ []

-- there is nothing to match exactly where no order waits
abbrev pub NothingWhereNoneWaits : Type 0
NothingWhereNoneWaits = (policy : PolicyData) (history : List RecordData) → matching policy history ≡ None ↔ waiting policy history ≡ []

-- no Enter or Replace of a killed account is granted
abbrev pub KilledPlaceNoOrders : Type 0
KilledPlaceNoOrders = (policy : PolicyData) (history : List RecordData) (a : Asked) (r : RecordData) (account : AccountName)
    → next policy history (Step.Asked a) ≡ Some r → r.verdict ≡ Verdict.Granted → IsTrue (is_order a.request) → account_of policy a.user ≡ Some account
    → IsFalse (is_killed policy history account)

-- a live order is found under its number
abbrev pub LiveOrdersAreFound : Type 0
LiveOrdersAreFound = (policy : PolicyData) (history : List RecordData)
    → IsLegal policy history → AllByRecursion (λ (o : LiveOrder). live_numbered (live policy history) o.number ≡ Some o) (live policy history)

-- its size is what it has open and what its chain has executed
abbrev pub TotalsAreOpenAndDone : Type 0
TotalsAreOpenAndDone = (policy : PolicyData) (history : List RecordData) → AllByRecursion (λ (o : LiveOrder). o.total ≡ shares_open o + o.done) (live policy history)

-- a user's live order under a token is, as it is now, his one order under it
abbrev pub LiveOrdersAreTheOne : Type 0
LiveOrdersAreTheOne = (policy : PolicyData) (history : List RecordData) (user : UserName) (token : Token) (o : LiveOrder)
    → IsLegal policy history → live_under (live policy history) user token ≡ Some o
    → option_and_then (open_now (executions policy history) history) (order_under (orders policy history) user token) ≡ Some o
