-- A rule on gross shares, gross value or net shares that was in force at the last grant of some accounts keeps its limit.
use Rattle.gx_policy.specs.{declared.{kinds.ExposureLimit.ExposureLimit, policy.{Count.Count, FileRule.FileRule, PolicyData.PolicyData, RuleKind.RuleKind, Scope.Scope}}, People.covers}
use Rattle.std.proofs.{Common.{◌≡◌, ℕ, ◌+◌, ◌-◌, ◌≤◌, pos, ◌+ℤ◌, ◌-ℤ◌, int_lt, Bool, true, false, cond, List, [], ◌∷◌, ◌++◌, length, refl, sym, ap, ◌∙◌, arith, append_assoc}, Math.Path.subst, lemmas.{Bool.{ltb-false, and_parts, not-true}, Int.ints}}
use Rattle.std.specs.{Prelude.{Option, Some, ◌&&◌}, Option.option_map_or, List.{AllByRecursion, list_any}}
use Rattle.gx_units.specs.{Names.same_stock, Money.value, declared.names.AccountName.AccountName}
use Rattle.gx_units.proofs.{Names_equal.{account_is, stock_is}, Lists_hold.all_weaker, Test_known.{left_false, right_false}}
use Rattle.gx_history.specs.{declared.{facts.{Facts.Facts, ProposedOrder.ProposedOrder, RuleFigures.RuleFigures, StockSide.StockSide}, live_order.LiveOrder.LiveOrder, «record».{Asked.Asked, RecordData.RecordData, Request.Request, Step.Step, Verdict.Verdict}}, Asking.facts, Book.{is_buy, is_on}, Executions.executions, Live.live, LiveOrders.shares_open, Figures.{counts_account, figures, kind_figures, net_done, no_figures, of_accounts, on_side, open_value, other_side, positions, side_done, side_live}, InForce.rules_in_force, Orders.Order, Rules.{kind_forbids, new_open, of_proposed, rule_forbids}, Verdicts.{Follows, IsLegal, facts_now, figures_asked, next, rules_now, with_figures}}
use Rattle.gx_ouch.specs.declared.outbound.OrderTerms.{OrderTerms}
use Rattle.gx_laws.proofs.{Requests_judged.{granted_passes, none_of_file}, Streams_next.legal_before, Sums_turn.is_chosen, Lists_members.{IsIn, all_are_in, of_all}, Exposure_later.{GoOn, done_stays, granted_to, legal_in_parts, no_more_shares_after, no_more_value_after}, Grants_figures.{GrantsOrder, grants_order}}
use Rattle.gx_laws.specs.{Exposure.{IsLastGrant, KeepsNet, KeepsShares, KeepsValue, executions_after, gains_of_sells, gross_shares, gross_value, side_shares}, ExposureLaws.{GrossSharesAreKept, GrossValuesAreKept, NetSharesAreKept}}

-- the file's rule passes the request
abbrev Passes : PolicyData → List RecordData → Asked → FileRule → Type 0
Passes policy before a rule =
    rule_forbids (facts_now policy before a) a.request rule (figures_asked policy (positions policy before) a.request (facts_now policy before a) rule) ≡ false

all_pass : (forbids : FileRule → RuleFigures → Bool) (asked_of : FileRule → RuleFigures) (rules : List FileRule) → list_any (λ (r : FileRule × RuleFigures). forbids r.0 r.1) (with_figures asked_of rules) ≡ false
    → AllByRecursion (λ (rule : FileRule). forbids rule (asked_of rule) ≡ false) rules
all_pass forbids asked_of [] h = tt
all_pass forbids asked_of (rule ∷ rules) h =
    let others : Bool = list_any (λ (r : FileRule × RuleFigures). forbids r.0 r.1) (with_figures asked_of rules) in
    (left_false (forbids rule (asked_of rule)) others h, all_pass forbids asked_of rules (right_false (forbids rule (asked_of rule)) others h))

-- each rule in force passes a granted request
rules_pass : (policy : PolicyData) (before : List RecordData) (a : Asked) (r : RecordData) → next policy before (Step.Asked a) ≡ Some r → r.verdict ≡ Verdict.Granted
    → AllByRecursion (Passes policy before a) (rules_in_force policy before)
rules_pass policy before a r left granted =
    all_pass (rule_forbids (facts_now policy before a) a.request) (figures_asked policy (positions policy before) a.request (facts_now policy before a)) (rules_in_force policy before)
    (none_of_file (rules_now policy before a) (facts_now policy before a) a.request (granted_passes policy before a r left granted))

-- the figures of a rule that has the account in its scope
figures_in_scope : (policy : PolicyData) (before : List RecordData) (asker : AccountName) (q : Request) (replaced : Option LiveOrder) (moment : ℕ) (rule : FileRule) → covers rule.scope asker ≡ true
    → figures policy (positions policy before) asker q replaced moment rule ≡ kind_figures policy (positions policy before) (λ count. counts_account count rule.scope asker) q replaced moment rule.kind
unfolding figures
figures_in_scope policy before asker q replaced moment rule covered =
    ap (λ b. cond b (kind_figures policy (positions policy before) (λ count. counts_account count rule.scope asker) q replaced moment rule.kind) no_figures) covered

-- the figures on which the rule passed it
kind_passes : {policy : PolicyData} {before : List RecordData} (r : RecordData) (g : GrantsOrder policy before r) (rule : FileRule) (kind : RuleKind) → rule.kind ≡ kind → covers rule.scope g.order.account ≡ true
    → Passes policy before g.asked rule
    → kind_forbids kind (kind_figures policy (positions policy before) (λ count. counts_account count rule.scope g.order.account) g.asked.request g.old (facts_now policy before g.asked).moment kind) g.shown ≡ false
unfolding facts
kind_passes {policy} {before} r g rule kind is covered passes =
    let given : Facts = facts_now policy before g.asked in
    let q : Request = g.asked.request in
    let of_kind : Option LiveOrder → RuleKind → RuleFigures = λ o k. kind_figures policy (positions policy before) (λ count. counts_account count rule.scope g.order.account) q o given.moment k in
    let asked_of : figures_asked policy (positions policy before) q given rule ≡ of_kind g.old rule.kind =
    ap (λ (account : Option AccountName). option_map_or (λ (account : AccountName). figures policy (positions policy before) account q given.target_order given.moment rule) account no_figures) g.is_his
    ∙ figures_in_scope policy before g.order.account q given.target_order given.moment rule covered
    ∙ ap (λ (o : Option LiveOrder). of_kind o rule.kind) g.is_replaced in
    sym
    (ap (λ (account : Option AccountName). option_map_or (covers rule.scope) account false && of_proposed given q (kind_forbids rule.kind (figures_asked policy (positions policy before) q given rule))) g.is_his
    ∙ ap (λ b. b && of_proposed given q (kind_forbids rule.kind (figures_asked policy (positions policy before) q given rule))) covered
    ∙ ap (λ (w : Option ProposedOrder). option_map_or (kind_forbids rule.kind (figures_asked policy (positions policy before) q given rule)) w false) g.is_shown
    ∙ ap (λ (f : RuleFigures). kind_forbids rule.kind f g.shown) asked_of
    ∙ ap (λ (k : RuleKind). kind_forbids k (of_kind g.old k) g.shown) is)
    ∙ passes

-- an asker whose account counts is in the scope, and the same accounts count for him
abbrev CountsTheSame : Count → Scope → AccountName → AccountName → Type 0
CountsTheSame count scope account asker = (covers scope asker ≡ true) × (counts_account count scope asker ≡ counts_account count scope account)

counts_the_same : (count : Count) (scope : Scope) (account asker : AccountName) → covers scope account ≡ true → counts_account count scope account asker ≡ true → CountsTheSame count scope account asker
counts_the_same Count.Each scope account asker covered counted =
    let same : account ≡ asker = account_is account asker counted in
    (ap (covers scope) (sym same) ∙ covered, ap (counts_account Count.Each scope) (sym same))
counts_the_same Count.Together scope account asker covered counted = (counted, refl)

-- an order on a side of a stock: whose it is, and which side
stands_there : (among : AccountName → Bool) (side : StockSide) (o : LiveOrder) → is_chosen (on_side among side) o ≡ true
    → (among o.account ≡ true) × (record { stock = o.terms.stock; buys = is_buy o.terms.side } ≡ side)
stands_there among side o h =
    let first = and_parts (among o.account && same_stock o.terms.stock side.stock) (is_on side.buys o.terms.side) h in
    let theirs = and_parts (among o.account) (same_stock o.terms.stock side.stock) first.0 in
    (theirs.0, λ i. record { stock = stock_is o.terms.stock side.stock theirs.1 i; buys = buys_is side.buys first.1 i })
  where
    buys_is : (b : Bool) → is_on b o.terms.side ≡ true → is_buy o.terms.side ≡ b
    buys_is true k = k
    buys_is false k = not-true (is_buy o.terms.side) k

-- what a rule passes is within its limit
net_low : (limit done other live new old : ℕ) → int_lt (pos limit) ((pos done -ℤ pos other) +ℤ pos live +ℤ pos new -ℤ pos old) ≡ false → live + done + new ≤ limit + old + other
net_low limit done other live new old h = omega (arith, ints)

module _ (laws : GoOn) (policy : PolicyData) (before : List RecordData) (r : RecordData) (after : List RecordData) (legal : IsLegal policy (before ++ r ∷ after)) where
  whole : (before ++ r ∷ []) ++ after ≡ before ++ r ∷ after
  whole = append_assoc before (r ∷ []) after

  legal_on : IsLegal policy ((before ++ r ∷ []) ++ after)
  legal_on = subst (IsLegal policy) (sym whole) legal

  legal_at : IsLegal policy before × Follows policy (before, r)
  legal_at = legal_before before r (legal_in_parts (before ++ r ∷ []) after legal_on).0

  few : (chosen : AccountName → OrderTerms → Bool) → IsLastGrant policy chosen before r after → granted_to policy chosen ((before ++ r ∷ []) ++ after) ≤ granted_to policy chosen (before ++ r ∷ [])
  few chosen last =
      let same : granted_to policy chosen ((before ++ r ∷ []) ++ after) ≡ granted_to policy chosen (before ++ r ∷ []) = ap (granted_to policy chosen) whole ∙ ap (λ (os : List Order). length os) last.is_last in
      omega (arith, same)

  -- a rule that was in force passed the last grant
  grant_of : (chosen : AccountName → OrderTerms → Bool) → IsLastGrant policy chosen before r after → GrantsOrder policy before r
  grant_of chosen last = grants_order laws r chosen legal_at.0 legal_at.1 last.is_granted

  passed : (g : GrantsOrder policy before r) (rule : FileRule) → IsIn rule (rules_in_force policy before) → Passes policy before g.asked rule
  passed g rule was = of_all (Passes policy before g.asked) rule (rules_in_force policy before) (rules_pass policy before g.asked r g.is_left g.is_granted) was

  keeps_shares : (rule : FileRule) → IsIn rule (rules_in_force policy before) → KeepsShares policy before r after rule
  keeps_shares rule was limit count account is covered last =
      let among : AccountName → Bool = counts_account count rule.scope account in
      let g : GrantsOrder policy before r = grant_of (of_accounts among) last in
      let counted : among g.order.account ≡ true = g.theirs (of_accounts among) last.is_granted in
      let same : CountsTheSame count rule.scope account g.order.account = counts_the_same count rule.scope account g.order.account covered counted in
      let old_open : ℕ = option_map_or shares_open g.old 0 in
      let low = ltb-false limit (gross_shares policy before (counts_account count rule.scope g.order.account) + new_open g.shown - old_open) (kind_passes r g rule (RuleKind.Exposure ExposureLimit.GrossShares limit count) is same.0 (passed g rule was)) in
      let theirs = ap (gross_shares policy before) same.1 in
      let then_has = g.shares_then (of_accounts among) counted (g.old_theirs among counted) in
      let no_more = no_more_shares_after laws policy (of_accounts among) (before ++ r ∷ []) after legal_on (few (of_accounts among) last) in
      let now = ap (λ (h : List RecordData). gross_shares policy h among) whole in
      omega (arith, low, theirs, then_has, no_more, now)

  keeps_value : (rule : FileRule) → IsIn rule (rules_in_force policy before) → KeepsValue policy before r after rule
  keeps_value rule was limit count account is covered last =
      let among : AccountName → Bool = counts_account count rule.scope account in
      let g : GrantsOrder policy before r = grant_of (of_accounts among) last in
      let counted : among g.order.account ≡ true = g.theirs (of_accounts among) last.is_granted in
      let same : CountsTheSame count rule.scope account g.order.account = counts_the_same count rule.scope account g.order.account covered counted in
      let old_value : ℕ = option_map_or open_value g.old 0 in
      let low = ltb-false limit (gross_value policy before (counts_account count rule.scope g.order.account) + value (new_open g.shown) g.shown.price - old_value) (kind_passes r g rule (RuleKind.Exposure ExposureLimit.GrossValue limit count) is same.0 (passed g rule was)) in
      let theirs = ap (gross_value policy before) same.1 in
      let then_has = g.value_then among counted in
      let no_more = no_more_value_after laws policy among (before ++ r ∷ []) after legal_on (few (of_accounts among) last) in
      let now = ap (λ (h : List RecordData). gross_value policy h among) whole in
      let since = ap (λ (h : List RecordData). gains_of_sells (executions_after policy (before ++ r ∷ []) h) among) whole in
      omega (arith, low, theirs, then_has, no_more, now, since)

  keeps_net : (rule : FileRule) → IsIn rule (rules_in_force policy before) → KeepsNet policy before r after rule
  keeps_net rule was limit count account side is covered last =
      let among : AccountName → Bool = counts_account count rule.scope account in
      let g : GrantsOrder policy before r = grant_of (on_side among side) last in
      let chosen : is_chosen (on_side among side) g.order ≡ true = g.theirs (on_side among side) last.is_granted in
      let parts = stands_there among side g.order chosen in
      let same : CountsTheSame count rule.scope account g.order.account = counts_the_same count rule.scope account g.order.account covered parts.0 in
      let old_open : ℕ = option_map_or shares_open g.old 0 in
      let before_it : (AccountName → Bool) → Option StockSide → Bool = λ who there.
      int_lt (pos limit) (option_map_or (net_done (executions policy before) who) there (pos 0) +ℤ pos (option_map_or (side_live (live policy before) who) there 0) +ℤ pos (new_open g.shown) -ℤ pos old_open) in
      let passed : before_it among (Some side) ≡ false =
      (λ i. before_it (sym same.1 i) (sym (g.is_there ∙ ap Some parts.1) i)) ∙ kind_passes r g rule (RuleKind.Exposure ExposureLimit.NetShares limit count) is same.0 (passed g rule was) in
      let low = net_low limit (side_done (executions policy before) among side) (side_done (executions policy before) among (other_side side)) (side_live (live policy before) among side) (new_open g.shown) old_open passed in
      let then_has = g.shares_then (on_side among side) chosen (g.old_there among side chosen) in
      let no_more = no_more_shares_after laws policy (on_side among side) (before ++ r ∷ []) after legal_on (few (on_side among side) last) in
      let stays = done_stays laws policy (on_side among (other_side side)) before (r ∷ after) legal in
      let now = ap (λ (h : List RecordData). side_shares policy h among side) whole in
      omega (arith, low, then_has, no_more, stays, now)

-- what each rule in force keeps, all do
all_keep : (policy : PolicyData) (before : List RecordData) (Keeps : FileRule → Type 0) → ((rule : FileRule) → IsIn rule (rules_in_force policy before) → Keeps rule) → AllByRecursion Keeps (rules_in_force policy before)
all_keep policy before Keeps each = all_weaker (λ (rule : FileRule). IsIn rule (rules_in_force policy before)) Keeps each (rules_in_force policy before) (all_are_in (rules_in_force policy before))

-- in every legal history
pub shares_stay_within : GoOn → GrossSharesAreKept
shares_stay_within laws policy history legal before after r is = all_keep policy before (KeepsShares policy before r after) (keeps_shares laws policy before r after (subst (IsLegal policy) is legal))

-- and their value
pub values_stay_within : GoOn → GrossValuesAreKept
values_stay_within laws policy history legal before after r is = all_keep policy before (KeepsValue policy before r after) (keeps_value laws policy before r after (subst (IsLegal policy) is legal))

-- and their net position
pub net_stays_within : GoOn → NetSharesAreKept
net_stays_within laws policy history legal before after r is = all_keep policy before (KeepsNet policy before r after) (keeps_net laws policy before r after (subst (IsLegal policy) is legal))
