-- The shares and the price of a granted order are within bounds.
use Rattle.std.proofs.{Common.{◌≡◌, ℕ, ◌<◌, ◌≤◌, ◌^◌, Bool, true, false, List, refl, ◌∙◌, ap, sym, arith}, lemmas.Bool.{leb-false, ltb-false}}
use Rattle.std.specs.{Prelude.{Option, Some, ◌%◌, ◌&&◌, ◌||◌, ◌==◌, not, nat_lt, nat_le, option_map}, Option.option_map_or}
use Rattle.gx_units.specs.Money.{is_bad_price}
use Rattle.gx_ouch.specs.declared.inbound.{EnterOrder.EnterOrder, ReplaceOrder.ReplaceOrder}
use Rattle.gx_history.specs.{declared.{live_order.LiveOrder.LiveOrder, facts.ProposedOrder.ProposedOrder, «record».{Asked.Asked, RecordData.RecordData, Request.Request, Step.Step, Verdict.Verdict}}, Live.{live, live_under}, Rules.forbids, Verdicts.{facts_now, next}}
use Rattle.gx_policy.specs.declared.{policy.PolicyData.PolicyData, rule_name.RuleName.TheVariants.{P5, P6}}
use Rattle.gx_laws.proofs.{Requests_judged.is_no_bar, NamedOrders_live.named_is}

few : (n : ℕ) → (n == 0 || nat_le 1000000 n) ≡ false → n < 2 ^ 32
few n h = by (n == 0) (nat_le 1000000 n) refl h
  where
    by : (a b : Bool) → nat_le 1000000 n ≡ b → (a || b) ≡ false → n < 2 ^ 32
    by true b e k = let no : true ≡ false = k in cc
    by false b e k = let less : n < 1000000 = leb-false 1000000 n (e ∙ k) in omega (arith, less)

low : (n : ℕ) → is_bad_price n ≡ false → n < 2 ^ 32
low n h = by (n == 0) (nat_lt 1999999900 n) (nat_le 10000 n && not (n % 100 == 0)) refl h
  where
    by : (a b c : Bool) → nat_lt 1999999900 n ≡ b → (a || b || c) ≡ false → n < 2 ^ 32
    by true b c e k = let no : true ≡ false = k in cc
    by false true c e k = let no : true ≡ false = k in cc
    by false false c e k = let most : n ≤ 1999999900 = ltb-false 1999999900 n e in omega (arith, most)

-- an Enter's shares
pub entered_shares : (policy : PolicyData) (history : List RecordData) (a : Asked) (r : RecordData) (m : EnterOrder)
    → next policy history (Step.Asked a) ≡ Some r → r.verdict ≡ Verdict.Granted → a.request ≡ Request.Enter m → m.shares < 2 ^ 32
entered_shares policy history a r m left granted asks =
    few m.shares (sym (ap (forbids P5 (facts_now policy history a)) asks) ∙ is_no_bar policy history a r left granted P5)

-- an Enter's price
pub entered_price : (policy : PolicyData) (history : List RecordData) (a : Asked) (r : RecordData) (m : EnterOrder)
    → next policy history (Step.Asked a) ≡ Some r → r.verdict ≡ Verdict.Granted → a.request ≡ Request.Enter m → m.price < 2 ^ 32
entered_price policy history a r m left granted asks =
    low m.price (sym (ap (forbids P6 (facts_now policy history a)) asks) ∙ is_no_bar policy history a r left granted P6)

-- the order that a Replace proposes
abbrev pub proposed_by : ReplaceOrder → LiveOrder → ProposedOrder
proposed_by m o = record {
  side = o.terms.side;
  stock = o.terms.stock;
  shares = m.shares;
  price = m.price;
  time_in_force = m.time_in_force;
  display = m.display;
  intermarket_sweep = m.intermarket_sweep;
  minimum_quantity = m.minimum_quantity;
  done = o.done;
  is_new = false;
}

abbrev is_bad_size : ProposedOrder → Bool
is_bad_size w = w.shares == 0 || nat_le 1000000 w.shares

abbrev has_bad_price : ProposedOrder → Bool
has_bad_price w = is_bad_price w.price

-- a granted Replace of the order
module _ (policy : PolicyData) (history : List RecordData) (a : Asked) (r : RecordData) (m : ReplaceOrder) (o : LiveOrder) (left : next policy history (Step.Asked a) ≡ Some r) (granted : r.verdict ≡ Verdict.Granted)
    (asks : a.request ≡ Request.Replace m) (found : live_under (live policy history) a.user m.existing_token ≡ Some o) where
  proposes : (test : ProposedOrder → Bool) → option_map_or test (option_map (proposed_by m) (facts_now policy history a).target_order) false ≡ test (proposed_by m o)
  proposes test = ap (λ (named : Option LiveOrder). option_map_or test (option_map (proposed_by m) named) false) (named_is policy history a (Request.Replace m) m.existing_token asks refl ∙ found)

  -- its shares
  pub replaced_shares : m.shares < 2 ^ 32
  replaced_shares = few m.shares (sym (ap (forbids P5 (facts_now policy history a)) asks ∙ proposes is_bad_size) ∙ is_no_bar policy history a r left granted P5)

  -- its price
  pub replaced_price : m.price < 2 ^ 32
  replaced_price = low m.price (sym (ap (forbids P6 (facts_now policy history a)) asks ∙ proposes has_bad_price) ∙ is_no_bar policy history a r left granted P6)
