-- What a record that follows adds to the orders: nothing, or the one order of a granted Enter or Replace.
use Rattle.std.proofs.{Common.{◌≡◌, Bool, true, false, List, [], ◌∷◌, refl, ◌∙◌, ap, sym, cond, inl, inr, ◌⊎◌}, lemmas.Bool.and_parts}
use Rattle.std.specs.{Prelude.{Option, Some, None, is_none, ◌&&◌, ◌||◌, nat_lt, not, filter}, Option.option_map_or, List.{cons_option, filter_map, list_any, last_or}}
use Rattle.gx_units.specs.{declared.names.{AccountName.AccountName, Token.Token, UserName.UserName}, Names.{same_user, same_token}}
use Rattle.gx_units.proofs.{Names_equal.user_is, Lists_hold.all_pass}
use Rattle.gx_ouch.specs.declared.inbound.{EnterOrder.EnterOrder, ReplaceOrder.ReplaceOrder}
use Rattle.gx_policy.specs.{declared.{policy.PolicyData.PolicyData, rule_name.RuleName.TheVariants.{I1, I2}}, Lists.last_such, People.role_in}
use Rattle.gx_history.specs.{declared.{live_order.LiveOrder.LiveOrder, «record».{Asked.Asked, RecordData.RecordData, Request.Request, Step.Step, Verdict.Verdict}}, Asking.{facts, live_named}, Book.rest_numbers, Executions.{Execution, done, executions}, Live.{has_come, live, live_under, open_now, open_order}, LiveOrders.is_under, Orders.{is_dead, total, Order, orders, orders_added, orders_made, order_under, order_entered, order_replacing, is_token_used}, Requests.{granted_of, asked_of, is_granted, is_order, new_token}, Rules.forbids, Verdicts.{next, facts_now, Follows}}
use Rattle.gx_laws.specs.HistoryLaws.{grants_order}
use Rattle.gx_laws.proofs.{Enters_granted.{HasAccount, entered_has_account}, Requests_judged.is_no_bar, Orders_owned.{found_last, nothing_found}}

pub none_kept : {X : Type 0} (p : X → Bool) (xs : List X) → list_any p xs ≡ false → filter p xs ≡ []
none_kept p [] h = refl
none_kept {X} p (x ∷ xs) h = at (p x) h (none_kept p xs)
  where
    at : (b : Bool) → (b || list_any p xs) ≡ false → (list_any p xs ≡ false → filter p xs ≡ []) → cond b (x ∷ filter p xs) (filter p xs) ≡ []
    at true k deeper = cc
    at false k deeper = deeper k

later_some : {X : Type 0} (y : X) (ys : List X) → is_none (last_or (Some y) ys) ≡ false
later_some y [] = refl
later_some y (z ∷ ys) = later_some z ys

-- where some pass, there is a last that does
any_found : {X : Type 0} (p : X → Bool) (xs : List X) → list_any p xs ≡ true → is_none (last_such p xs) ≡ false
any_found p [] h = cc
any_found {X} p (x ∷ xs) h = at (p x) h (any_found p xs)
  where
    at : (b : Bool) → (b || list_any p xs) ≡ true → (list_any p xs ≡ true → is_none (last_or None (filter p xs)) ≡ false) → is_none (last_or None (cond b (x ∷ filter p xs) (filter p xs))) ≡ false
    at true k deeper = later_some x (filter p xs)
    at false k deeper = deeper k

found_any : {X : Type 0} (p : X → Bool) (xs : List X) → is_none (last_such p xs) ≡ false → list_any p xs ≡ true
found_any {X} p xs h = at (list_any p xs) refl
  where
    at : (b : Bool) → list_any p xs ≡ b → b ≡ true
    at true e = refl
    at false e = let nothing : is_none (last_such p xs) ≡ true = ap (λ (ys : List X). is_none (last_or None ys)) (none_kept p xs e) in cc

-- what was found last passes the test
pub found_passes : {X : Type 0} (p : X → Bool) (xs : List X) (x : X) → last_such p xs ≡ Some x → p x ≡ true
found_passes {X} p xs x h = found_last (λ (y : X). p y ≡ true) None (filter p xs) x (nothing_found (λ (y : X). p y ≡ true) x) (all_pass p xs) h

-- an order that is live under the token is an order under the token
any_live : (made : List Execution) (history : List RecordData) (user : UserName) (token : Token) (os : List Order) → list_any (is_under user token) (filter_map (open_now made history) os) ≡ true
    → list_any (λ (o : Order). same_user o.user user && same_token o.token token) os ≡ true
any_live made history user token [] h = h
any_live made history user token (o ∷ os) h = at (not (is_dead history o) && nat_lt (done made o) (total history o)) (same_user o.user user && same_token o.token token) refl h (any_live made history user token os)
  where
    rest : List LiveOrder
    rest = filter_map (open_now made history) os

    at : (b c : Bool) → (same_user o.user user && same_token o.token token) ≡ c → list_any (is_under user token) (cons_option (cond b (Some (open_order o (total history o) (done made o) (not (has_come (rest_numbers history) o.number)))) None) rest) ≡ true
        → (list_any (is_under user token) rest ≡ true → list_any (λ (o : Order). same_user o.user user && same_token o.token token) os ≡ true) → (c || list_any (λ (o : Order). same_user o.user user && same_token o.token token) os) ≡ true
    at b true e k deeper = refl
    at true false e k deeper = deeper (ap (λ (c : Bool). c || list_any (is_under user token) rest) (sym e) ∙ k)
    at false false e k deeper = deeper k

pub under_known : (policy : PolicyData) (history : List RecordData) (user : UserName) (token : Token)
    → is_none (live_under (live policy history) user token) ≡ false → is_none (order_under (orders policy history) user token) ≡ false
unfolding live
under_known policy history user token h =
    any_found (λ (o : Order). same_user o.user user && same_token o.token token) (orders policy history)
    (any_live (executions policy history) history user token (orders policy history) (found_any (is_under user token) (filter_map (open_now (executions policy history) history) (orders policy history)) h))

named_at : (policy : PolicyData) (history : List RecordData) (a : Asked) (m : ReplaceOrder) → a.request ≡ Request.Replace m
    → (facts_now policy history a).target_order ≡ live_under (live policy history) a.user m.existing_token
unfolding facts
named_at policy history a m e = ap (live_named policy history a.user) e

-- a granted Replace names an order
replaced_is_known : (policy : PolicyData) (history : List RecordData) (a : Asked) (r : RecordData) (m : ReplaceOrder)
    → next policy history (Step.Asked a) ≡ Some r → r.verdict ≡ Verdict.Granted → a.request ≡ Request.Replace m
    → is_none (order_under (orders policy history) a.user m.existing_token) ≡ false
replaced_is_known policy history a r m e granted_of asks =
    under_known policy history a.user m.existing_token
    (sym (ap is_none (named_at policy history a m asks)) ∙ sym (ap (forbids I2 (facts_now policy history a)) asks) ∙ is_no_bar policy history a r e granted_of I2)

pub record AddsNone (policy : PolicyData) (history : List RecordData) (r : RecordData) : Type 0 where
  pub adds : orders_added policy (orders policy history) r ≡ []
  pub grants_none : grants_order r ≡ false

pub record AddsOne (policy : PolicyData) (history : List RecordData) (r : RecordData) : Type 0 where
  pub a : Asked
  pub o : Order
  pub asks : r.step ≡ Step.Asked a
  pub grants : r.verdict ≡ Verdict.Granted
  pub is_for_order : is_order a.request ≡ true
  pub under : new_token a.request ≡ Some o.token
  pub his : o.user ≡ a.user
  pub numbered : o.number ≡ r.number
  pub adds : orders_added policy (orders policy history) r ≡ o ∷ []

pub granted_is : (r : RecordData) (a : Asked) → r.step ≡ Step.Asked a → r.verdict ≡ Verdict.Granted → granted_of r ≡ Some a
granted_is r a asks grants = ap (λ (v : Verdict). cond (is_granted v) (asked_of r.step) None) grants ∙ ap asked_of asks

nothing_granted : (policy : PolicyData) (history : List RecordData) (r : RecordData) → granted_of r ≡ None → AddsNone policy history r
nothing_granted policy history r e = record {
  adds = ap (λ (g : Option Asked). option_map_or (λ (a : Asked). orders_made policy (orders policy history) r a.user a.request) g []) e;
  grants_none = ap (λ (g : Option Asked). option_map_or (λ (a : Asked). is_order a.request) g false) e;
}

no_order : (policy : PolicyData) (history : List RecordData) (r : RecordData) (a : Asked) (q : Request) → granted_of r ≡ Some a → a.request ≡ q
    → orders_made policy (orders policy history) r a.user q ≡ [] → is_order q ≡ false → AddsNone policy history r
no_order policy history r a q g e makes is_none_for = record {
  adds = ap (λ (found : Option Asked). option_map_or (λ (x : Asked). orders_made policy (orders policy history) r x.user x.request) found []) g
      ∙ ap (orders_made policy (orders policy history) r a.user) e ∙ makes;
  grants_none = ap (λ (found : Option Asked). option_map_or (λ (x : Asked). is_order x.request) found false) g ∙ ap is_order e ∙ is_none_for;
}

one_order : (policy : PolicyData) (history : List RecordData) (r : RecordData) (a : Asked) (q : Request) (o : Order) → r.step ≡ Step.Asked a → r.verdict ≡ Verdict.Granted → a.request ≡ q
    → orders_made policy (orders policy history) r a.user q ≡ o ∷ [] → is_order q ≡ true → new_token q ≡ Some o.token → o.user ≡ a.user → o.number ≡ r.number → AddsOne policy history r
one_order policy history r a q o asks grants e makes for_order under his numbered = record {
  a = a;
  o = o;
  asks = asks;
  grants = grants;
  is_for_order = ap is_order e ∙ for_order;
  under = ap new_token e ∙ under;
  his = his;
  numbered = numbered;
  adds = ap (λ (found : Option Asked). option_map_or (λ (x : Asked). orders_made policy (orders policy history) r x.user x.request) found []) (granted_is r a asks grants)
      ∙ ap (orders_made policy (orders policy history) r a.user) e ∙ makes;
}

enter_adds : (policy : PolicyData) (history : List RecordData) (r : RecordData) (a : Asked) (m : EnterOrder) → next policy history (Step.Asked a) ≡ Some r
    → r.step ≡ Step.Asked a → r.verdict ≡ Verdict.Granted → a.request ≡ Request.Enter m → AddsOne policy history r
enter_adds policy history r a m left asks grants e =
    let his : HasAccount (role_in policy.users a.user) = entered_has_account policy history a r m left grants e in
    one_order policy history r a (Request.Enter m) (order_entered policy r a.user his.0 m) asks grants e
    (ap (λ (found : Option AccountName). option_map_or (λ (account : AccountName). order_entered policy r a.user account m ∷ []) found []) his.1) refl refl refl refl

replace_adds : (policy : PolicyData) (history : List RecordData) (r : RecordData) (a : Asked) (m : ReplaceOrder) → next policy history (Step.Asked a) ≡ Some r
    → r.step ≡ Step.Asked a → r.verdict ≡ Verdict.Granted → a.request ≡ Request.Replace m → AddsOne policy history r
replace_adds policy history r a m left asks grants e = at (order_under (orders policy history) a.user m.existing_token) refl (replaced_is_known policy history a r m left grants e)
  where
    is_his : Order → Bool
    is_his o = same_user o.user a.user && same_token o.token m.existing_token

    at : (found : Option Order) → order_under (orders policy history) a.user m.existing_token ≡ found → is_none found ≡ false → AddsOne policy history r
    at None f h = cc
    at (Some o) f h =
        one_order policy history r a (Request.Replace m) (order_replacing r m o) asks grants e
        (ap (λ (found : Option Order). option_map_or (λ (x : Order). order_replacing r m x ∷ []) found []) f) refl refl
        (user_is o.user a.user (and_parts (same_user o.user a.user) (same_token o.token m.existing_token)
        (found_passes (λ (x : Order). same_user x.user a.user && same_token x.token m.existing_token) (orders policy history) o f)).0) refl

pub what_is_added : {policy : PolicyData} {history : List RecordData} (r : RecordData) → Follows policy (history, r) → AddsNone policy history r ⊎ AddsOne policy history r
what_is_added {policy} {history} r follows = by_verdict r.verdict refl
  where
    none_of : (v : Verdict) → r.verdict ≡ v → is_granted v ≡ false → AddsNone policy history r
    none_of v e h = nothing_granted policy history r (ap (λ (w : Verdict). cond (is_granted w) (asked_of r.step) None) e ∙ ap (λ (b : Bool). cond b (asked_of r.step) None) h)

    by_request : (a : Asked) (q : Request) → r.step ≡ Step.Asked a → r.verdict ≡ Verdict.Granted → a.request ≡ q → next policy history (Step.Asked a) ≡ Some r
        → AddsNone policy history r ⊎ AddsOne policy history r
    by_request a (Request.Login m) asks grants e left = inl (no_order policy history r a (Request.Login m) (granted_is r a asks grants) e refl refl)
    by_request a Request.Logout asks grants e left = inl (no_order policy history r a Request.Logout (granted_is r a asks grants) e refl refl)
    by_request a (Request.Unreadable m) asks grants e left = inl (no_order policy history r a (Request.Unreadable m) (granted_is r a asks grants) e refl refl)
    by_request a (Request.Enter m) asks grants e left = inr (enter_adds policy history r a m left asks grants e)
    by_request a (Request.Replace m) asks grants e left = inr (replace_adds policy history r a m left asks grants e)
    by_request a (Request.Cancel m) asks grants e left = inl (no_order policy history r a (Request.Cancel m) (granted_is r a asks grants) e refl refl)
    by_request a (Request.Command c) asks grants e left = inl (no_order policy history r a (Request.Command c) (granted_is r a asks grants) e refl refl)

    by_step : (s : Step) → r.step ≡ s → r.verdict ≡ Verdict.Granted → AddsNone policy history r ⊎ AddsOne policy history r
    by_step (Step.Asked a) asks grants = by_request a a.request asks grants refl (ap (next policy history) (sym asks) ∙ follows.is_next)
    by_step (Step.Matching handed) asks grants = inl (nothing_granted policy history r (ap (λ (v : Verdict). cond (is_granted v) (asked_of r.step) None) grants ∙ ap asked_of asks))

    by_verdict : (v : Verdict) → r.verdict ≡ v → AddsNone policy history r ⊎ AddsOne policy history r
    by_verdict Verdict.Granted e = by_step r.step refl e
    by_verdict (Verdict.Denied rule) e = inl (none_of (Verdict.Denied rule) e refl)
    by_verdict (Verdict.Filled f) e = inl (none_of (Verdict.Filled f) e refl)
    by_verdict (Verdict.Rested n) e = inl (none_of (Verdict.Rested n) e refl)
    by_verdict (Verdict.Expired n) e = inl (none_of (Verdict.Expired n) e refl)

-- the new token of an order that is added was not used before
pub added_is_unused : {policy : PolicyData} {history : List RecordData} (r : RecordData) (one : AddsOne policy history r) → Follows policy (history, r)
    → is_token_used history one.o.user one.o.token ≡ false
unfolding facts
added_is_unused {policy} {history} r one follows =
    let left : next policy history (Step.Asked one.a) ≡ Some r = ap (next policy history) (sym one.asks) ∙ follows.is_next in
    ap (λ (user : UserName). is_token_used history user one.o.token) one.his
    ∙ ap (λ (found : Option Token). option_map_or (is_token_used history one.a.user) found false) (sym one.under)
    ∙ ap (λ (b : Bool). b && option_map_or (is_token_used history one.a.user) (new_token one.a.request) false) (sym one.is_for_order)
    ∙ is_no_bar policy history one.a r left one.grants I1
