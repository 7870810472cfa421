-- What is so of the book and of each fill.
use Rattle.std.specs.{Prelude.{◌≡◌, ◌<◌, ◌≤◌, ◌==◌, not, IsTrue, IsFalse, true, false, List, Some}, List.{AllByRecursion, list_any}}
use Rattle.gx_units.specs.{declared.names.{AccountName.AccountName, Symbol.Symbol}, Names.same_account}
use Rattle.gx_policy.specs.declared.policy.PolicyData.{PolicyData}
use Rattle.gx_history.specs.{declared.{live_order.LiveOrder.LiveOrder, «record».{Fill.Fill, RecordData.RecordData}}, Live.{is_buy_order, is_there, live, live_numbered, side, waiting}, LiveOrders.shares_open, Matching.crosses}

-- A fill is between two live orders of one stock and of two sides, found under their numbers, at the price of the one that rested, and for some shares that both have open.
pub record IsFair (policy : PolicyData) (before : List RecordData) (f : Fill) : Type 0 where
  pub taker : LiveOrder
  pub maker : LiveOrder
  pub taker_lives : live_numbered (live policy before) f.taker ≡ Some taker
  pub maker_lives : live_numbered (live policy before) f.maker ≡ Some maker
  pub they_differ : IsFalse (f.taker == f.maker)
  pub other_side : IsTrue (is_there taker.terms.stock (not (is_buy_order taker)) maker)
  pub at_its_price : f.price ≡ maker.terms.price
  pub some_shares : 0 < f.shares
  pub taker_has_them : f.shares ≤ shares_open taker
  pub maker_has_them : f.shares ≤ shares_open maker

-- no order of the account is live, whether it waits to be matched or rests in the book
pub record HasNoOrders (policy : PolicyData) (history : List RecordData) (account : AccountName) : Type 0 where
  pub none_live : IsFalse (list_any (λ (o : LiveOrder). same_account account o.account) (live policy history))
  pub none_incoming : IsFalse (list_any (λ (o : LiveOrder). same_account account o.account) (waiting policy history))
  pub none_resting : (stock : Symbol) (buy : _) → IsFalse (list_any (λ (o : LiveOrder). same_account account o.account) (side policy history stock buy))

-- No book is crossed: each buy that rests in a stock is below each sell that rests there.
abbrev pub AreUncrossed : PolicyData → List RecordData → Type 0
AreUncrossed policy history = (stock : Symbol)
    → AllByRecursion (λ (buy : LiveOrder). AllByRecursion (λ (sell : LiveOrder). IsFalse (crosses buy sell)) (side policy history stock false)) (side policy history stock true)
