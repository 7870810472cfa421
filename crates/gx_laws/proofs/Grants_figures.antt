-- What the record of a granted order shows: the figures that it was judged on, and what its order makes of them.
use Rattle.std.proofs.{Common.{◌≡◌, ℕ, ◌+◌, Bool, true, false, cond, List, [], ◌∷◌, ◌++◌, refl, sym, ap, ◌∙◌, arith, inl, inr, ◌⊎◌}, Math.Path.subst, lemmas.{List.append-nil, Bool.and_parts}}
use Rattle.std.specs.{Prelude.{Option, Some, None, option_map, ◌||◌}, Option.option_map_or, List.{filter_map, list_any}}
use Rattle.gx_units.specs.{Money.value, Names.{same_token, same_user}, declared.names.AccountName.AccountName}
use Rattle.gx_units.proofs.Names_equal.{user_is}
use Rattle.gx_ouch.specs.declared.{inbound.{EnterOrder.EnterOrder, ReplaceOrder.ReplaceOrder}, outbound.OrderTerms.OrderTerms}
use Rattle.gx_history.specs.{declared.{live_order.LiveOrder.LiveOrder, facts.{ProposedOrder.ProposedOrder, StockSide.StockSide}, «record».{Asked.Asked, RecordData.RecordData, Request.Request, Step.Step, Verdict.Verdict}, moves.Move.Move}, Asking.{facts, live_named}, Book.is_buy, Executions.Execution, Figures.{Positions, done_of_chosen, done_value, live_value, on_side, open_of_chosen, open_value, positions, side_asked}, Live.live, LiveOrders.{is_under, replacement_order, shares_open}, Orders.{Order, orders, orders_added}, Requests.is_order, Rules.{new_open, proposed_order}, Turns.{Turn, Adds, Replaces, becomes, new_in, new_order}, World.{move_asked, turn_by, turn_in, world}, Verdicts.{Follows, IsLegal, facts_now, next}}
use Rattle.gx_policy.specs.{declared.policy.PolicyData.PolicyData, People.account_of}
use Rattle.gx_laws.proofs.{Orders_added.{AddsNone, AddsOne, found_passes, what_is_added}, Enters_granted.{HasAccount, entered_has_account}, Orders_owned.{IsHisAccounts, last_such_is, orders_are_their_users}, Runs_legal.step_left, Lists_members.of_all, LiveOrders_known.{IsKnown, live_known}, NamedOrders_live.{Names, named_is, names_live}, Runs_orderly.legal_is_orderly, World_next.all_stay, Terms_bounds.proposed_by, Sums_turn.{added, is_chosen, lost_by, replaced_loses, shares_of, value_of}, Exposure_later.GoOn, Exposure_turn.{shares_held, value_held}}
use Rattle.gx_laws.specs.{Changing.{executed_by, positions_with}, PositionLaws.{granted_after, turn_after}, Sound.{MayChange, MayCome}, Exposure.{gross_value, is_such, shares_of_chosen}}

-- the record grants an order to the asker's account, on the side that the request is for, where the order is live that it replaces
pub record GrantsOrder (policy : PolicyData) (before : List RecordData) (r : RecordData) : Type 0 where
  pub asked : Asked
  pub order : LiveOrder
  pub shown : ProposedOrder
  pub old : Option LiveOrder
  pub is_left : next policy before (Step.Asked asked) ≡ Some r
  pub is_granted : r.verdict ≡ Verdict.Granted
  pub is_his : account_of policy asked.user ≡ Some order.account
  pub is_shown : proposed_order (facts_now policy before asked) asked.request ≡ Some shown
  pub is_replaced : (facts_now policy before asked).target_order ≡ old
  pub is_there : side_asked asked.request old ≡ Some (record { stock = order.terms.stock; buys = is_buy order.terms.side })
  pub theirs : (chosen : AccountName → OrderTerms → Bool) → list_any (is_such chosen) (orders_added policy (orders policy before) r) ≡ true → is_chosen chosen order ≡ true
  pub old_theirs : (among : AccountName → Bool) → among order.account ≡ true → option_map_or (λ (o : LiveOrder). among o.account) old true ≡ true
  pub old_there : (among : AccountName → Bool) (side : StockSide) → is_chosen (on_side among side) order ≡ true → option_map_or (is_chosen (on_side among side)) old true ≡ true
  pub shares_then : (chosen : AccountName → OrderTerms → Bool) → is_chosen chosen order ≡ true → option_map_or (is_chosen chosen) old true ≡ true
      → shares_of_chosen policy (before ++ r ∷ []) chosen + option_map_or shares_open old 0 ≡ shares_of_chosen policy before chosen + new_open shown
  pub value_then : (among : AccountName → Bool) → among order.account ≡ true
      → gross_value policy (before ++ r ∷ []) among + option_map_or open_value old 0 ≡ gross_value policy before among + value (new_open shown) shown.price

-- what an Enter asks for
abbrev asked_by_enter : EnterOrder → ProposedOrder
asked_by_enter m = record {
  side = m.side;
  stock = m.stock;
  shares = m.shares;
  price = m.price;
  time_in_force = m.time_in_force;
  display = m.display;
  intermarket_sweep = m.intermarket_sweep;
  minimum_quantity = m.minimum_quantity;
  done = 0;
  is_new = true;
}

one_theirs : (b : Bool) → (b || false) ≡ true → b ≡ true
one_theirs true h = refl
one_theirs false h = h

when : (b : Bool) (n : ℕ) → b ≡ true → cond b n 0 ≡ n
when b n h = ap (λ c. cond c n 0) h

-- an order comes new, and none is filled
module _ (held : Positions) (turn : Turn) (granted : List Order) (new : LiveOrder) (comes : new_in turn ≡ new ∷ []) (idle : executed_by turn held.grants ≡ []) where
  same_made : held.executions ++ executed_by turn held.grants ≡ held.executions
  same_made = ap (λ (es : List Execution). held.executions ++ es) idle ∙ append-nil held.executions

  shares_come : (chosen : AccountName → OrderTerms → Bool) → is_chosen chosen new ≡ true
      → shares_held (positions_with turn granted held) chosen ≡ (open_of_chosen (filter_map (becomes turn) held.live) chosen + shares_open new) + done_of_chosen held.executions chosen
  shares_come chosen h =
      let lives = ap (λ (more : List LiveOrder). open_of_chosen (filter_map (becomes turn) held.live ++ more) chosen) comes ∙ added (shares_of chosen) (filter_map (becomes turn) held.live) new in
      let made = ap (λ (es : List Execution). done_of_chosen es chosen) same_made in
      let counts = when (is_chosen chosen new) (shares_open new) h in
      omega (arith, lives, made, counts)

  value_comes : (among : AccountName → Bool) → among new.account ≡ true
      → value_held (positions_with turn granted held) among ≡ (live_value (filter_map (becomes turn) held.live) among + open_value new) + done_value held.executions among
  value_comes among h =
      let lives = ap (λ (more : List LiveOrder). live_value (filter_map (becomes turn) held.live ++ more) among) comes ∙ added (value_of among) (filter_map (becomes turn) held.live) new in
      let made = ap (λ (es : List Execution). done_value es among) same_made in
      let counts = when (among new.account) (open_value new) h in
      omega (arith, lives, made, counts)

module _ (laws : GoOn) (policy : PolicyData) (before : List RecordData) (r : RecordData) (a : Asked) (legal : IsLegal policy before) (left : next policy before (Step.Asked a) ≡ Some r) (is_granted : r.verdict ≡ Verdict.Granted) where
  abbrev held : Positions
  held = positions policy before

  abbrev grants : List Order
  grants = granted_after policy before r

  turn_is : (q : Request) → a.request ≡ q → turn_after policy before r ≡ turn_in (move_asked policy (world policy before) r a q)
  turn_is q asks =
      ap (λ (v : Verdict). turn_by policy (world policy before) r v r.step) is_granted
      ∙ ap (λ (s : Step). turn_by policy (world policy before) r Verdict.Granted s) (step_left policy before (Step.Asked a) r left)
      ∙ ap (λ (q : Request). turn_in (move_asked policy (world policy before) r a q)) asks

  positions_then : (turn : Turn) → turn_after policy before r ≡ turn → positions policy (before ++ r ∷ []) ≡ positions_with turn grants held
  positions_then turn is = laws.go_on policy before (Step.Asked a) r legal left ∙ ap (λ (t : Turn). positions_with t grants held) is

  may : (turn : Turn) → turn_after policy before r ≡ turn → MayChange policy held turn grants
  may turn is = subst (λ (t : Turn). MayChange policy held t grants) is (laws.may_come policy before (Step.Asked a) r legal left)

  -- the one order that the record grants
  is_theirs : (new : LiveOrder) → MayCome policy held new grants → (chosen : AccountName → OrderTerms → Bool) → list_any (is_such chosen) grants ≡ true → is_chosen chosen new ≡ true
  is_theirs new come chosen h =
      (λ i. chosen (sym come.is_of.account i) (sym come.is_of.terms i)) ∙ one_theirs (is_such chosen come.grant) (sym (ap (list_any (is_such chosen)) come.is_granted) ∙ h)

  by_enter : (m : EnterOrder) → a.request ≡ Request.Enter m → GrantsOrder policy before r
  unfolding facts
  by_enter m asks =
      let his : HasAccount _ = entered_has_account policy before a r m left is_granted asks in
      let new : LiveOrder = new_order policy r a.user his.0 m in
      let turns : turn_after policy before r ≡ Adds new = turn_is (Request.Enter m) asks ∙ ap (λ (found : Option AccountName). turn_in (option_map_or (λ (account : AccountName). Move.Adds (new_order policy r a.user account m)) found Move.Nothing)) his.1 in
      let come : MayCome policy held new grants = may (Adds new) turns in
      record {
        asked = a;
        order = new;
        shown = asked_by_enter m;
        old = None;
        is_left = left;
        is_granted = is_granted;
        is_his = his.1;
        is_shown = ap (proposed_order (facts_now policy before a)) asks;
        is_replaced = ap (live_named policy before a.user) asks;
        is_there = ap (λ (q : Request). side_asked q None) asks;
        theirs = is_theirs new come;
        old_theirs = λ among h. refl;
        old_there = λ among side h. refl;
        shares_then = λ chosen h was_chosen.
            let after = ap (λ (p : Positions). shares_held p chosen) (positions_then (Adds new) turns) ∙ shares_come held (Adds new) grants new refl refl chosen h in
            let stay = ap (λ (os : List LiveOrder). open_of_chosen os chosen) (all_stay held.live) in
            omega (arith, after, stay);
        value_then = λ among h.
            let after = ap (λ (p : Positions). value_held p among) (positions_then (Adds new) turns) ∙ value_comes held (Adds new) grants new refl refl among h in
            let stay = ap (λ (os : List LiveOrder). live_value os among) (all_stay held.live) in
            omega (arith, after, stay);
      }

  by_replace : (m : ReplaceOrder) → a.request ≡ Request.Replace m → GrantsOrder policy before r
  by_replace m asks =
      let named : Names policy before a.user m.existing_token = names_live policy before a r (Request.Replace m) m.existing_token left is_granted asks refl refl in
      let old : LiveOrder = named.0 in
      let new : LiveOrder = replacement_order r m old in
      let known : IsKnown policy before old = last_such_is (IsKnown policy before) (is_under a.user m.existing_token) (live policy before) old (live_known (legal_is_orderly legal)) named.1 in
      let his : account_of policy old.user ≡ Some old.account =
      subst (λ (o : LiveOrder). account_of policy o.user ≡ Some o.account) known.of.is_it (of_all (IsHisAccounts policy) known.of.order (orders policy before) (orders_are_their_users policy before) known.of.is_known) in
      let same : old.user ≡ a.user = user_is old.user a.user (and_parts (same_user old.user a.user) (same_token old.token m.existing_token) (found_passes (is_under a.user m.existing_token) (live policy before) old named.1)).0 in
      let turns : turn_after policy before r ≡ Replaces old.number new =
      turn_is (Request.Replace m) asks ∙ ap (λ (found : Option LiveOrder). turn_in (option_map_or (λ (o : LiveOrder). Move.Replaces o (replacement_order r m o)) found Move.Nothing)) named.1 in
      let come : MayCome policy held new grants = (may (Replaces old.number new) turns).may_come in
      let names : (facts_now policy before a).target_order ≡ Some old = named_is policy before a (Request.Replace m) m.existing_token asks refl ∙ named.1 in
      let distinct = (laws.are_sound policy before legal).numbers_differ in
      let goes = replaced_loses held old.number new old known.is_found in
      record {
        asked = a;
        order = new;
        shown = proposed_by m old;
        old = Some old;
        is_left = left;
        is_granted = is_granted;
        is_his = ap (account_of policy) (sym same) ∙ his;
        is_shown = ap (proposed_order (facts_now policy before a)) asks ∙ ap (option_map (proposed_by m)) names;
        is_replaced = names;
        is_there = ap (λ (q : Request). side_asked q (Some old)) asks;
        theirs = is_theirs new come;
        old_theirs = λ among h. h;
        old_there = λ among side h. h;
        shares_then = λ chosen h was_chosen.
            let after = ap (λ (p : Positions). shares_held p chosen) (positions_then (Replaces old.number new) turns) ∙ shares_come held (Replaces old.number new) grants new refl refl chosen h in
            let lost = lost_by (shares_of chosen) (Replaces old.number new) old.number held.live old (shares_open old) distinct goes in
            let counts = when (is_chosen chosen old) (shares_open old) was_chosen in
            omega (arith, after, lost, counts);
        value_then = λ among h.
            let after = ap (λ (p : Positions). value_held p among) (positions_then (Replaces old.number new) turns) ∙ value_comes held (Replaces old.number new) grants new refl refl among h in
            let lost = lost_by (value_of among) (Replaces old.number new) old.number held.live old (shares_open old) distinct goes in
            let counts = when (among old.account) (open_value old) h in
            omega (arith, after, lost, counts);
      }

-- a record that adds an order that is chosen
pub grants_order : (laws : GoOn) {policy : PolicyData} {before : List RecordData} (r : RecordData) (chosen : AccountName → OrderTerms → Bool) → IsLegal policy before → Follows policy (before, r)
    → list_any (is_such chosen) (orders_added policy (orders policy before) r) ≡ true → GrantsOrder policy before r
grants_order laws {policy} {before} r chosen legal follows adds = by (what_is_added r follows)
  where
    by_request : (a : Asked) → next policy before (Step.Asked a) ≡ Some r → r.verdict ≡ Verdict.Granted → (q : Request) → a.request ≡ q → is_order q ≡ true → GrantsOrder policy before r
    by_request a left is_granted (Request.Enter m) asks h = by_enter laws policy before r a legal left is_granted m asks
    by_request a left is_granted (Request.Replace m) asks h = by_replace laws policy before r a legal left is_granted m asks
    by_request a left is_granted (Request.Login m) asks h = cc
    by_request a left is_granted Request.Logout asks h = cc
    by_request a left is_granted (Request.Unreadable m) asks h = cc
    by_request a left is_granted (Request.Cancel m) asks h = cc
    by_request a left is_granted (Request.Command c) asks h = cc

    by : AddsNone policy before r ⊎ AddsOne policy before r → GrantsOrder policy before r
    by (inl none) = let no : false ≡ true = sym (ap (list_any (is_such chosen)) none.adds) ∙ adds in cc
    by (inr one) = by_request one.a (subst (λ (s : Step). next policy before s ≡ Some r) one.asks follows.is_next) one.grants one.a.request refl one.is_for_order
