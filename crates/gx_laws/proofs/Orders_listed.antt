-- Each order is in a stock of the policy.
use Rattle.std.proofs.{Common.{◌≡◌, true, List, [], ◌∷◌, refl, ◌∙◌, ap, sym, cond}, Math.Path.subst, lemmas.{Bool.not-false, Option.same_Some}}
use Rattle.std.specs.{Prelude.{Option, Some, None, is_some, ◌&&◌}, Option.option_map_or, List.AllByRecursion}
use Rattle.gx_units.specs.{declared.names.AccountName.AccountName, Names.{same_user, same_token}}
use Rattle.gx_units.proofs.Lists_hold.{all_both}
use Rattle.gx_ouch.specs.declared.inbound.{EnterOrder.EnterOrder, ReplaceOrder.ReplaceOrder}
use Rattle.gx_policy.specs.{declared.{policy.PolicyData.PolicyData, rule_name.RuleName.TheVariants.P4}, People.{stock_named, account_of}}
use Rattle.gx_history.specs.{declared.record.{Asked.Asked, RecordData.RecordData, Request.Request, Step.Step, Verdict.Verdict}, Asking.{facts, lists_its_stock}, Orders.{Order, orders, orders_added, orders_made, order_under, order_entered, order_replacing}, Requests.{granted_of, is_granted, asked_of}, Rules.forbids, Verdicts.{next, facts_now, IsLegal, Follows}}
use Rattle.gx_laws.proofs.{Requests_judged.{is_no_bar, legal_keeps}, Orders_next.{orders_next, orders_none}, Orders_owned.last_such_is}

lists_stock : (policy : PolicyData) (history : List RecordData) (a : Asked) → (facts_now policy history a).stock_is_listed ≡ lists_its_stock policy a.request
unfolding facts
lists_stock policy history a = refl

-- a granted Enter is in a stock of the policy
pub entered_is_listed : (policy : PolicyData) (history : List RecordData) (a : Asked) (r : RecordData) (m : EnterOrder)
    → next policy history (Step.Asked a) ≡ Some r → r.verdict ≡ Verdict.Granted → a.request ≡ Request.Enter m → is_some (stock_named policy m.stock) ≡ true
entered_is_listed policy history a r m e granted_of enters =
    sym (ap (lists_its_stock policy) enters)
    ∙ sym (lists_stock policy history a)
    ∙ not-false (facts_now policy history a).stock_is_listed (sym (ap (forbids P4 (facts_now policy history a)) enters) ∙ is_no_bar policy history a r e granted_of P4)

abbrev pub IsListed : PolicyData → Order → Type 0
IsListed policy o = is_some (stock_named policy o.terms.stock) ≡ true

-- who is granted, asked
pub was_granted : (v : Verdict) (s : Step) (a : Asked) → cond (is_granted v) (asked_of s) None ≡ Some a → (s ≡ Step.Asked a) × (v ≡ Verdict.Granted)
was_granted Verdict.Granted (Step.Asked b) a h = (ap (λ (x : Asked). Step.Asked x) (same_Some _ _ h), refl)
was_granted Verdict.Granted (Step.Matching handed) a h = cc
was_granted (Verdict.Denied rule) s a h = cc
was_granted (Verdict.Filled f) s a h = cc
was_granted (Verdict.Rested n) s a h = cc
was_granted (Verdict.Expired n) s a h = cc

added_is_listed : (policy : PolicyData) (history : List RecordData) (r : RecordData) → AllByRecursion (IsListed policy) (orders policy history) → next policy history r.step ≡ Some r
    → AllByRecursion (IsListed policy) (orders_added policy (orders policy history) r)
added_is_listed policy history r known left = by_grant (granted_of r) refl
  where
    AllAre : List Order → Type 0
    AllAre os = AllByRecursion (IsListed policy) os

    of_list : (os : List Order) → AllByRecursion (IsListed policy) os → orders_added policy (orders policy history) r ≡ os → AllByRecursion (IsListed policy) (orders_added policy (orders policy history) r)
    of_list os h e = subst (AllByRecursion (IsListed policy)) (sym e) h

    by_enter : (a : Asked) (m : EnterOrder) → is_some (stock_named policy m.stock) ≡ true → (found : Option AccountName)
        → AllByRecursion (IsListed policy) (option_map_or (λ (account : AccountName). order_entered policy r a.user account m ∷ []) found [])
    by_enter a m listed None = tt
    by_enter a m listed (Some account) = (listed, tt)

    by_replace : (a : Asked) (m : ReplaceOrder) → (found : Option Order) → order_under (orders policy history) a.user m.existing_token ≡ found
        → AllByRecursion (IsListed policy) (option_map_or (λ (o : Order). order_replacing r m o ∷ []) found [])
    by_replace a m None e = tt
    by_replace a m (Some o) e = (last_such_is (IsListed policy) (λ (x : Order). same_user x.user a.user && same_token x.token m.existing_token) (orders policy history) o known e, tt)

    by_request : (a : Asked) → r.step ≡ Step.Asked a → r.verdict ≡ Verdict.Granted → (q : Request) → a.request ≡ q → AllByRecursion (IsListed policy) (orders_made policy (orders policy history) r a.user q)
    by_request a s v (Request.Login m) asks = tt
    by_request a s v Request.Logout asks = tt
    by_request a s v (Request.Unreadable m) asks = tt
    by_request a s v (Request.Enter m) asks = by_enter a m (entered_is_listed policy history a r m (sym (ap (next policy history) s) ∙ left) v asks) (account_of policy a.user)
    by_request a s v (Request.Replace m) asks = by_replace a m (order_under (orders policy history) a.user m.existing_token) refl
    by_request a s v (Request.Cancel m) asks = tt
    by_request a s v (Request.Command c) asks = tt

    by_grant : (found : Option Asked) → granted_of r ≡ found → AllByRecursion (IsListed policy) (orders_added policy (orders policy history) r)
    by_grant None g = of_list [] tt (ap (λ (x : Option Asked). option_map_or (λ (a : Asked). orders_made policy (orders policy history) r a.user a.request) x []) g)
    by_grant (Some a) g =
        let was : (r.step ≡ Step.Asked a) × (r.verdict ≡ Verdict.Granted) = was_granted r.verdict r.step a g in
        of_list (orders_made policy (orders policy history) r a.user a.request) (by_request a was.0 was.1 a.request refl)
        (ap (λ (x : Option Asked). option_map_or (λ (y : Asked). orders_made policy (orders policy history) r y.user y.request) x []) g)

pub orders_are_listed : (policy : PolicyData) (history : List RecordData) → IsLegal policy history → AllByRecursion (IsListed policy) (orders policy history)
orders_are_listed policy history legal =
    legal_keeps (λ (h : List RecordData). AllByRecursion (IsListed policy) (orders policy h))
    (subst (AllByRecursion (IsListed policy)) (sym (orders_none policy)) tt)
    (λ (h : List RecordData) (r : RecordData) known (follows : Follows policy (h, r)).
    subst (AllByRecursion (IsListed policy)) (sym (orders_next policy h r))
    (all_both (IsListed policy) (orders policy h) (orders_added policy (orders policy h) r) known (added_is_listed policy h r known follows.is_next))) legal
