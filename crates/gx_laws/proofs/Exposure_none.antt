-- Accounts that were granted no order have nothing.
use Rattle.std.proofs.{Common.{◌≡◌, ℕ, Bool, true, false, cond, List, [], ◌∷◌, map, refl, sym, ◌∙◌, arith}, Math.Path.subst}
use Rattle.std.specs.{Prelude.{Option, Some, None, nat_eq, option_to_list}, List.{filter, AllByRecursion}}
use Rattle.gx_units.specs.{Money.value, declared.names.AccountName.AccountName}
use Rattle.gx_units.proofs.Lists_hold.{all_both, all_parted, found_is}
use Rattle.gx_ouch.specs.declared.{letters.Liquidity.Liquidity, outbound.OrderTerms.OrderTerms}
use Rattle.gx_policy.specs.declared.policy.PolicyData.{PolicyData}
use Rattle.gx_history.specs.{declared.{«record».{Fill.Fill, RecordData.RecordData, Verdict.Verdict}, live_order.LiveOrder.LiveOrder}, Executions.{Execution, executions, side_of, sides}, Figures.of_accounts, Live.live, Orders.{Order, order_numbered, orders, orders_added}, Verdicts.IsLegal}
use Rattle.gx_laws.proofs.{Requests_judged.legal_keeps, Orders_next.{executions_next, executions_none, orders_next}, Turns_allowed.of_live, Sums_turn.{done_are, done_value_are, is_chosen, none_of, shares_of, sum_of_none, value_of}}
use Rattle.gx_laws.specs.Exposure.{HasNothing, NoneIsGranted, is_such, shares_of_chosen}

none_passes : {X : Type 0} (p : X → Bool) (xs : List X) → filter p xs ≡ [] → AllByRecursion (λ (x : X). p x ≡ false) xs
none_passes p [] h = tt
none_passes {X} p (x ∷ xs) h = at (p x) refl h (none_passes p xs)
  where
    at : (b : Bool) → p x ≡ b → cond b (x ∷ filter p xs) (filter p xs) ≡ [] → (filter p xs ≡ [] → AllByRecursion (λ (x : X). p x ≡ false) xs) → AllByRecursion (λ (x : X). p x ≡ false) (x ∷ xs)
    at true e k deeper = cc
    at false e k deeper = (e, deeper k)

module _ (P : Order → Type 0) where
  -- a fill's sides are orders that are known
  side_has : (known : List Order) (f : Fill) (liquidity : Liquidity) (number : ℕ) → AllByRecursion P known → AllByRecursion (λ (e : Execution). P e.order) (side_of known f liquidity number)
  side_has known f liquidity number h = at (order_numbered known number) refl
    where
      at : (found : Option Order) → order_numbered known number ≡ found
          → AllByRecursion (λ (e : Execution). P e.order) (map (λ (o : Order). record { fill = f; liquidity = liquidity; order = o }) (option_to_list found))
      at None e = tt
      at (Some o) e = (found_is P (λ (o : Order). nat_eq o.number number) known o h e, tt)

  sides_have : (policy : PolicyData) (before : List RecordData) (v : Verdict) → AllByRecursion P (orders policy before) → AllByRecursion (λ (e : Execution). P e.order) (sides policy before v)
  sides_have policy before Verdict.Granted h = tt
  sides_have policy before (Verdict.Denied rule) h = tt
  sides_have policy before (Verdict.Filled f) h =
      all_both (λ (e : Execution). P e.order) (side_of (orders policy before) f Liquidity.Removed f.taker) (side_of (orders policy before) f Liquidity.Added f.maker)
      (side_has (orders policy before) f Liquidity.Removed f.taker h) (side_has (orders policy before) f Liquidity.Added f.maker h)
  sides_have policy before (Verdict.Rested number) h = tt
  sides_have policy before (Verdict.Expired number) h = tt

  -- what holds of each order holds of those that executed
  pub executions_have : (policy : PolicyData) (history : List RecordData) → IsLegal policy history → AllByRecursion P (orders policy history) → AllByRecursion (λ (e : Execution). P e.order) (executions policy history)
  executions_have policy history legal =
      legal_keeps (λ (h : List RecordData). AllByRecursion P (orders policy h) → AllByRecursion (λ (e : Execution). P e.order) (executions policy h))
      (λ _. subst (AllByRecursion (λ (e : Execution). P e.order)) (sym (executions_none policy)) tt)
      (λ h r kept follows all.
      let parts = all_parted P (orders policy h) (orders_added policy (orders policy h) r) (subst (AllByRecursion P) (orders_next policy h r) all) in
      subst (AllByRecursion (λ (e : Execution). P e.order)) (sym (executions_next policy h r))
      (all_both (λ (e : Execution). P e.order) (executions policy h) (sides policy h r.verdict) (kept parts.0) (sides_have policy h r.verdict parts.0))) legal

module _ (policy : PolicyData) (history : List RecordData) (chosen : AccountName → OrderTerms → Bool) (legal : IsLegal policy history) (none : NoneIsGranted policy history chosen) where
  not_chosen : AllByRecursion (λ (o : Order). is_such chosen o ≡ false) (orders policy history)
  not_chosen = none_passes (is_such chosen) (orders policy history) none

  none_lives : AllByRecursion (λ (o : LiveOrder). is_chosen chosen o ≡ false) (live policy history)
  none_lives =
      of_live (λ (x : Order). is_such chosen x ≡ false) (λ (o : LiveOrder). is_chosen chosen o ≡ false)
      (λ x o is h. (λ i. chosen (sym is.account i) (sym is.terms i)) ∙ h) legal not_chosen

  none_executed : AllByRecursion (λ (e : Execution). is_such chosen e.order ≡ false) (executions policy history)
  none_executed = executions_have (λ (o : Order). is_such chosen o ≡ false) policy history legal not_chosen

  -- none granted, no shares
  pub no_shares : shares_of_chosen policy history chosen ≡ 0
  no_shares =
      let still = none_of (shares_of chosen) (live policy history) none_lives in
      let done = done_are (executions policy history) chosen ∙ sum_of_none (λ (e : Execution). is_such chosen e.order) (λ (e : Execution). e.fill.shares) (executions policy history) none_executed in
      omega (arith, still, done)

-- none granted, none held
pub none_asked : (policy : PolicyData) (history : List RecordData) (among : AccountName → Bool) → IsLegal policy history → NoneIsGranted policy history (of_accounts among) → HasNothing policy history among
none_asked policy history among legal none =
    let theirs : Execution → Bool = λ e. among e.order.account in
    let value_open = none_of (value_of among) (live policy history) (none_lives policy history (of_accounts among) legal none) in
    let value_done = done_value_are (executions policy history) among ∙ sum_of_none theirs (λ (e : Execution). value e.fill.shares e.fill.price) (executions policy history) (none_executed policy history (of_accounts among) legal none) in
    record { no_shares = no_shares policy history (of_accounts among) legal none; no_value = omega (arith, value_open, value_done) }
