-- What the state answer of what stands is what the definitions say.
use Rattle.gx_policy.specs.{declared.{kinds.{ExposureLimit.ExposureLimit}, policy.{Count.Count, FileRule.FileRule, PolicyData.PolicyData, RuleKind.RuleKind, User.User}}, People.{account_named, covers}, Soundness.is_sound}
use Rattle.std.proofs.{Common.{◌≡◌, ℕ, ◌+◌, ◌*◌, ◌<◌, ◌≤◌, ◌^◌, pos, ◌-ℤ◌, ◌+ℤ◌, arith, Bool, true, false, cond, not, ◌&&◌, List, [], ◌∷◌, length, refl, ap, sym, subst, ◌∙◌}, lemmas.{Int.ints, Iterator.Adapters.position_from-zero, List.Folds.find_at}}
use Rattle.std.specs.{Prelude.{Option, Some, None, is_some, option_map, option_and_then, slice_get, unwrap_or, IfSome, FitsSigned}, Int.w128, List.{find, position, position_from, position_or_len}}
use Rattle.gx_units.specs.{Money.value, Names.same_rule, declared.names.{AccountName.AccountName, RuleId.RuleId, UserName.UserName}}
use Rattle.gx_ouch.specs.declared.outbound.OrderTerms.{OrderTerms}
use Rattle.gx_history.specs.{declared.{facts.StockSide.StockSide, live_order.LiveOrder.LiveOrder, «record».RecordData.RecordData}, Executions.{Execution, executions}, Figures.{counts_account, done_of_chosen, done_value, live_value, of_accounts, on_side, open_of_chosen, open_value, other_side, positions}, InForce.is_entitled, Live.{live, live_numbered}, LiveOrders.shares_open, Verdicts.{IsLegal, day_limit}}
use Rattle.gx_orders.specs.LiveOrders.{OrdersData}
use Rattle.gx_people.specs.Entitled.{sees}
use Rattle.gx_people.proofs.Grants_next.{kept}
use Rattle.gx_laws.proofs.{Days_bounds.{IsSized, legal_is_sized}, SmallDays_next.{IsSmall, IsSmallSide, below, product, sum_within}, Positions_sound.{live_are_few, positions_are_sound}}
use Rattle.gx_rules.specs.Settings.{limit_in}
use Rattle.gx_ledger.specs.{declared.{figure_kind.FigureKind.FigureKind, sums.{NetSums.NetSums, Sums.Sums}}, Standing.{GivesGross, GivesNet, counted_with, gross_sums_of, net_sums_of}, Tallies.{asks_of, count_of}}
use Rattle.gx_gate_state.specs.declared.state.GateState.{GateState}
use Rattle.gx_slab.specs.Slabs.{of_account}
use Rattle.gx_records.specs.State.{gross_of, gross_of_rule, gross_used, limit_in_force, net_of, net_of_rule, net_used, of_user}
use Rattle.gx_core.specs.{Kept.IsKept, Used.{AreNetSmall, AreSmall, gross_in, net_in}}

pub live_is_known : (policy : PolicyData) (history : List RecordData) (k : GateState) → IsKept policy history k → k.orders.live ≡ live policy history
live_is_known policy history k kept = ap (λ (orders : OrdersData). orders.live) kept.in_force.orders

pub orders_of_account_are_known : (policy : PolicyData) (history : List RecordData) (k : GateState) (account : AccountName) → IsKept policy history k
    → of_account account k.orders.live ≡ of_account account (live policy history)
orders_of_account_are_known policy history k account kept = ap (of_account account) (live_is_known policy history k kept)

pub count_is_known : (policy : PolicyData) (history : List RecordData) (k : GateState) (user : UserName) → IsKept policy history k
    → length (of_user user k.orders.live) ≡ length (of_user user (live policy history))
count_is_known policy history k user kept = ap (λ (orders : List LiveOrder). length (of_user user orders)) (live_is_known policy history k kept)

pub order_is_known : (policy : PolicyData) (history : List RecordData) (k : GateState) (number : ℕ) → IsKept policy history k
    → live_numbered k.orders.live number ≡ live_numbered (live policy history) number
order_is_known policy history k number kept = ap (λ (orders : List LiveOrder). live_numbered orders number) (live_is_known policy history k kept)

pub limit_is_known : (policy : PolicyData) (history : List RecordData) (k : GateState) (name : RuleId) → IsKept policy history k
    → limit_in k.rules name ≡ limit_in_force policy history name
limit_is_known policy history k name kept = ap (λ (rules : List FileRule). limit_in rules name) kept.in_force.rules

pub sight_is_known : (policy : PolicyData) (history : List RecordData) (k : GateState) (reader : UserName) (account : AccountName) → IsKept policy history k → is_sound policy ≡ true
    → sees k.people reader account ≡ is_entitled policy history reader account
sight_is_known policy history k reader account is sound = ap (λ (users : List User). sees users reader account) is.in_force.people ∙ kept policy history reader account sound

-- ---- what sums a rule counts

gross_is : (policy : PolicyData) (history : List RecordData) (account : AccountName) (rule : FileRule)
    → option_map gross_in (option_and_then (gross_sums_of (asks_of rule.kind) (positions policy history)) (counted_with policy account rule)) ≡ gross_of_rule policy history account rule
gross_is policy history account rule = by (is_some (account_named policy account) && covers rule.scope account) rule.kind
  where
    by : (b : Bool) (kind : RuleKind)
        → option_map gross_in (option_and_then (gross_sums_of (asks_of kind) (positions policy history)) (cond b (option_map (λ (count : Count). counts_account count rule.scope account) (count_of kind)) None))
        ≡ cond b (gross_of policy history (λ count. counts_account count rule.scope account) kind) None
    by false kind = refl
    by true (RuleKind.Exposure ExposureLimit.GrossShares limit count) = refl
    by true (RuleKind.Exposure ExposureLimit.GrossValue limit count) = refl
    by true (RuleKind.Exposure ExposureLimit.NetShares limit count) = refl
    by true (RuleKind.Rate rate count) = refl
    by true (RuleKind.Repeat repeat count) = refl
    by true (RuleKind.Listed kind stocks) = refl
    by true (RuleKind.Plain kind) = refl
    by true (RuleKind.Order kind limit) = refl

net_is : (policy : PolicyData) (history : List RecordData) (account : AccountName) (side : StockSide) (rule : FileRule)
    → option_map net_in (option_and_then (net_sums_of (asks_of rule.kind) (positions policy history) side) (counted_with policy account rule)) ≡ net_of_rule policy history account side rule
net_is policy history account side rule = by (is_some (account_named policy account) && covers rule.scope account) rule.kind
  where
    by : (b : Bool) (kind : RuleKind)
        → option_map net_in (option_and_then (net_sums_of (asks_of kind) (positions policy history) side) (cond b (option_map (λ (count : Count). counts_account count rule.scope account) (count_of kind)) None))
        ≡ cond b (net_of policy history (λ count. counts_account count rule.scope account) side kind) None
    by false kind = refl
    by true (RuleKind.Exposure ExposureLimit.GrossShares limit count) = refl
    by true (RuleKind.Exposure ExposureLimit.GrossValue limit count) = refl
    by true (RuleKind.Exposure ExposureLimit.NetShares limit count) = refl
    by true (RuleKind.Rate rate count) = refl
    by true (RuleKind.Repeat repeat count) = refl
    by true (RuleKind.Listed kind stocks) = refl
    by true (RuleKind.Plain kind) = refl
    by true (RuleKind.Order kind limit) = refl

-- the first that passes, or behind them all
place_from : {X : Type 0} (p : X → Bool) (n : ℕ) (xs : List X) → unwrap_or (position_from p n xs) (n + length xs) ≡ n + position_or_len p xs
place_from p n [] = refl
place_from {X} p n (x ∷ xs) = by (p x) (place_from p (n + 1) xs)
  where
    by : (b : Bool) → unwrap_or (position_from p (n + 1) xs) (n + 1 + length xs) ≡ n + 1 + position_or_len p xs
        → unwrap_or (cond b (Some n) (position_from p (n + 1) xs)) (n + length (x ∷ xs)) ≡ n + cond (not b) (1 + position_or_len p xs) 0
    by true later = omega arith
    by false later = ap (unwrap_or (position_from p (n + 1) xs)) (omega arith) ∙ later ∙ omega arith

-- the place of the rule of this name
abbrev pub place_of_rule : List FileRule → RuleId → ℕ
place_of_rule rules name = unwrap_or (position (λ (r : FileRule). same_rule r.name name) rules) (length rules)

-- the rule that stands there
stands_there : (rules : List FileRule) (name : RuleId) → find (λ (r : FileRule). same_rule r.name name) rules ≡ slice_get rules (place_of_rule rules name)
stands_there rules name =
    let named : FileRule → Bool = λ (r : FileRule). same_rule r.name name in
    let none : length rules ≡ 0 + length rules = omega arith in
    let first : 0 + position_or_len named rules ≡ position_or_len named rules = omega arith in
    find_at named rules
    ∙ ap (slice_get rules)
    (sym (ap (λ o. unwrap_or o (length rules)) (position_from-zero named rules) ∙ ap (unwrap_or (position_from named 0 rules)) none ∙ place_from named 0 rules ∙ first))

pub gross_is_known : {policy : PolicyData} {history : List RecordData} (k : GateState) (name : RuleId) (account : AccountName) (given : Option Sums) → IsKept policy history k
    → GivesGross k.ledger (place_of_rule policy.rules name) account given
    → option_map gross_in given ≡ gross_used policy history name account
gross_is_known {policy} {history} k name account given is gives =
    ap (option_map gross_in) (gives policy (positions policy history) is.in_force.ledger)
    ∙ by (slice_get policy.rules (place_of_rule policy.rules name))
    ∙ ap (option_and_then (gross_of_rule policy history account)) (sym (stands_there policy.rules name))
  where
    by : (found : Option FileRule)
        → option_map gross_in (option_and_then (λ (rule : FileRule). option_and_then (gross_sums_of (asks_of rule.kind) (positions policy history)) (counted_with policy account rule)) found)
        ≡ option_and_then (gross_of_rule policy history account) found
    by None = refl
    by (Some rule) = gross_is policy history account rule

pub net_is_known : {policy : PolicyData} {history : List RecordData} (k : GateState) (name : RuleId) (account : AccountName) (side : StockSide) (given : Option NetSums) → IsKept policy history k
    → GivesNet k.ledger (place_of_rule policy.rules name) account side given
    → option_map net_in given ≡ net_used policy history name account side
net_is_known {policy} {history} k name account side given is gives =
    ap (option_map net_in) (gives policy (positions policy history) is.in_force.ledger (positions_are_sound policy history is.legal))
    ∙ by (slice_get policy.rules (place_of_rule policy.rules name))
    ∙ ap (option_and_then (net_of_rule policy history account side)) (sym (stands_there policy.rules name))
  where
    by : (found : Option FileRule)
        → option_map net_in (option_and_then (λ (rule : FileRule). option_and_then (net_sums_of (asks_of rule.kind) (positions policy history) side) (counted_with policy account rule)) found)
        ≡ option_and_then (net_of_rule policy history account side) found
    by None = refl
    by (Some rule) = net_is policy history account side rule

-- ---- and that they are small

fits : (sum n : ℕ) → sum ≤ n * 2 ^ 64 → n ≤ day_limit + day_limit → sum < 2 ^ 120
fits sum n within few = omega (arith, within, few)

net_fits : (done other live : ℕ) → done < 2 ^ 120 → other < 2 ^ 120 → live < 2 ^ 120 → FitsSigned w128 (pos done -ℤ pos other +ℤ pos live)
net_fits done other live low also small = omega (arith, ints, low, also, small)

module _ (policy : PolicyData) (history : List RecordData) (legal : IsLegal policy history) where
  abbrev sized : IsSized policy history
  sized = legal_is_sized legal

  few_live : length (live policy history) ≤ day_limit + day_limit
  few_live = omega (arith, live_are_few policy history legal)

  open_small : (chosen : AccountName → OrderTerms → Bool) → open_of_chosen (live policy history) chosen < 2 ^ 120
  unfolding open_of_chosen
  open_small chosen =
      fits _ (length (live policy history)) (sum_within shares_open IsSmall (λ o h. below (shares_open o) h.0) (λ (o : LiveOrder). chosen o.account o.terms) (live policy history) (sized).small_live) few_live

  open_value_small : (among : AccountName → Bool) → live_value (live policy history) among < 2 ^ 120
  unfolding live_value
  open_value_small among =
      fits _ (length (live policy history)) (sum_within open_value IsSmall (λ o h. product (shares_open o) o.terms.price h.0 h.1) (λ (o : LiveOrder). among o.account) (live policy history) (sized).small_live) few_live

  done_small : (chosen : AccountName → OrderTerms → Bool) → done_of_chosen (executions policy history) chosen < 2 ^ 120
  unfolding done_of_chosen
  done_small chosen =
      fits _ (length (executions policy history))
      (sum_within (λ (e : Execution). e.fill.shares) IsSmallSide (λ e h. below e.fill.shares h.0) (λ (e : Execution). chosen e.order.account e.order.terms) (executions policy history) (sized).small_sides)
      (sized).few_sides.1

  done_value_small : (among : AccountName → Bool) → done_value (executions policy history) among < 2 ^ 120
  unfolding done_value
  done_value_small among =
      fits _ (length (executions policy history))
      (sum_within (λ (e : Execution). value e.fill.shares e.fill.price) IsSmallSide (λ e h. product e.fill.shares e.fill.price h.0 h.1) (λ (e : Execution). among e.order.account) (executions policy history) (sized).small_sides)
      (sized).few_sides.1

  -- whatever the accounts count together
  gross_small : (asked : FigureKind) (found : Option (AccountName → Bool)) → IfSome (option_and_then (gross_sums_of asked (positions policy history)) found) AreSmall
  gross_small asked None = tt
  gross_small FigureKind.Shares (Some among) = omega (arith, open_small (of_accounts among), done_small (of_accounts among))
  gross_small FigureKind.Value (Some among) = omega (arith, open_value_small among, done_value_small among)
  gross_small FigureKind.Sides (Some among) = tt
  gross_small FigureKind.Nothing (Some among) = tt
  gross_small FigureKind.Reference (Some among) = tt
  gross_small (FigureKind.Recent rate) (Some among) = tt
  gross_small (FigureKind.Alike repeat) (Some among) = tt

  net_small : (side : StockSide) (asked : FigureKind) (found : Option (AccountName → Bool)) → IfSome (option_and_then (net_sums_of asked (positions policy history) side) found) AreNetSmall
  net_small side asked None = tt
  net_small side FigureKind.Sides (Some among) = record {
    live = omega (arith, open_small (on_side among side));
    net = net_fits _ _ _ (done_small (on_side among side)) (done_small (on_side among (other_side side))) (open_small (on_side among side));
  }
  net_small side FigureKind.Shares (Some among) = tt
  net_small side FigureKind.Value (Some among) = tt
  net_small side FigureKind.Nothing (Some among) = tt
  net_small side FigureKind.Reference (Some among) = tt
  net_small side (FigureKind.Recent rate) (Some among) = tt
  net_small side (FigureKind.Alike repeat) (Some among) = tt

pub gross_is_small : {policy : PolicyData} {history : List RecordData} (k : GateState) (place : ℕ) (account : AccountName) (given : Option Sums) → IsKept policy history k
    → GivesGross k.ledger place account given → IfSome given AreSmall
gross_is_small {policy} {history} k place account given is gives =
    subst (λ (o : Option Sums). IfSome o AreSmall) (sym (gives policy (positions policy history) is.in_force.ledger)) (at (slice_get policy.rules place))
  where
    at : (found : Option FileRule)
        → IfSome (option_and_then (λ (rule : FileRule). option_and_then (gross_sums_of (asks_of rule.kind) (positions policy history)) (counted_with policy account rule)) found) AreSmall
    at None = tt
    at (Some rule) = gross_small policy history is.legal (asks_of rule.kind) (counted_with policy account rule)

pub net_is_small : {policy : PolicyData} {history : List RecordData} (k : GateState) (place : ℕ) (account : AccountName) (side : StockSide) (given : Option NetSums) → IsKept policy history k
    → GivesNet k.ledger place account side given → IfSome given AreNetSmall
net_is_small {policy} {history} k place account side given is gives =
    subst (λ (o : Option NetSums). IfSome o AreNetSmall) (sym (gives policy (positions policy history) is.in_force.ledger (positions_are_sound policy history is.legal))) (at (slice_get policy.rules place))
  where
    at : (found : Option FileRule)
        → IfSome (option_and_then (λ (rule : FileRule). option_and_then (net_sums_of (asks_of rule.kind) (positions policy history) side) (counted_with policy account rule)) found) AreNetSmall
    at None = tt
    at (Some rule) = net_small policy history is.legal side (asks_of rule.kind) (counted_with policy account rule)
