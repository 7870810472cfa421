-- No order is granted later than the last record.
use Rattle.std.proofs.{Common.{◌≡◌, ℕ, ◌≤◌, List, [], ◌∷◌, ◌++◌, refl, sym, arith}, Math.{Path.subst, Nat.le-max_right}}
use Rattle.std.specs.{Prelude.{Option, Some, None}, Option.option_map_or, List.AllByRecursion}
use Rattle.gx_units.specs.declared.names.{AccountName.AccountName, UserName.UserName}
use Rattle.gx_units.proofs.Lists_hold.{all_weaker, all_both}
use Rattle.gx_ouch.specs.declared.inbound.{EnterOrder.EnterOrder, ReplaceOrder.ReplaceOrder}
use Rattle.gx_policy.specs.{declared.policy.PolicyData.PolicyData, People.account_of}
use Rattle.gx_history.specs.{declared.record.{Asked.Asked, RecordData.RecordData, Request.Request, Step.Step}, Orders.{Order, orders, orders_added, orders_made, order_under, order_entered, order_replacing}, Requests.{granted_of, handed_moment}, Verdicts.{IsLegal, last_moment, next, Follows}}
use Rattle.gx_laws.proofs.{Requests_judged.legal_keeps, InForce_next.last_moment_next, Orders_next.{orders_none, orders_next}, Runs_legal.moment_left}
use Rattle.gx_laws.specs.Sound.{IsNoLater}

-- granted at this moment
abbrev IsAt : RecordData → Order → Type 0
IsAt r o = o.moment ≡ r.moment

enter_at : (policy : PolicyData) (r : RecordData) (user : UserName) (m : EnterOrder) (found : Option AccountName)
    → AllByRecursion (IsAt r) (option_map_or (λ account. order_entered policy r user account m ∷ []) found [])
enter_at policy r user m None = tt
enter_at policy r user m (Some account) = (refl, tt)

replace_at : (r : RecordData) (m : ReplaceOrder) (found : Option Order)
    → AllByRecursion (IsAt r) (option_map_or (λ o. order_replacing r m o ∷ []) found [])
replace_at r m None = tt
replace_at r m (Some o) = (refl, tt)

made_at : (policy : PolicyData) (known : List Order) (r : RecordData) (user : UserName) (q : Request)
    → AllByRecursion (IsAt r) (orders_made policy known r user q)
made_at policy known r user (Request.Login m) = tt
made_at policy known r user Request.Logout = tt
made_at policy known r user (Request.Unreadable m) = tt
made_at policy known r user (Request.Enter m) = enter_at policy r user m (account_of policy user)
made_at policy known r user (Request.Replace m) = replace_at r m (order_under known user m.existing_token)
made_at policy known r user (Request.Cancel m) = tt
made_at policy known r user (Request.Command c) = tt

added_at : (policy : PolicyData) (known : List Order) (r : RecordData) (found : Option Asked)
    → AllByRecursion (IsAt r) (option_map_or (λ (a : Asked). orders_made policy known r a.user a.request) found [])
added_at policy known r None = tt
added_at policy known r (Some a) = made_at policy known r a.user a.request

-- a record is no earlier than the last
no_earlier : (policy : PolicyData) (history : List RecordData) (step : Step) (r : RecordData)
    → next policy history step ≡ Some r → last_moment history ≤ r.moment
no_earlier policy history step r left =
    subst (λ (n : ℕ). last_moment history ≤ n) (sym (moment_left policy history step r left))
    (le-max_right (handed_moment step) (last_moment history))

-- each order was granted by this moment
abbrev pub AreBy : ℕ → List Order → Type 0
AreBy moment os = AllByRecursion (λ (o : Order). o.moment ≤ moment) os

one_more_by : {policy : PolicyData} {history : List RecordData} (r : RecordData) → AreBy (last_moment history) (orders policy history)
    → Follows policy (history, r) → AreBy (last_moment (history ++ r ∷ [])) (orders policy (history ++ r ∷ []))
one_more_by {policy} {history} r known follows =
    let later : last_moment history ≤ r.moment = no_earlier policy history r.step r follows.is_next in
    let now : last_moment (history ++ r ∷ []) ≡ r.moment = last_moment_next history r in
    let added : List Order = orders_added policy (orders policy history) r in
    let then : ℕ = last_moment (history ++ r ∷ []) in
    subst (AreBy then) (sym (orders_next policy history r))
    (all_both (λ (o : Order). o.moment ≤ then) (orders policy history) added
    (all_weaker (λ (o : Order). o.moment ≤ last_moment history) (λ (o : Order). o.moment ≤ then) (λ o h. omega (arith, h, later, now)) (orders policy history) known)
    (all_weaker (IsAt r) (λ (o : Order). o.moment ≤ then) (λ o h. omega (arith, h, now)) added (added_at policy (orders policy history) r (granted_of r))))

-- so no order is granted later than the last record
orders_by_now : {policy : PolicyData} {history : List RecordData} → IsLegal policy history → AreBy (last_moment history) (orders policy history)
orders_by_now {policy} legal =
    legal_keeps (λ (h : List RecordData). AreBy (last_moment h) (orders policy h)) (subst (AreBy 0) (sym (orders_none policy)) tt)
    (λ h r known follows. one_more_by r known follows) legal

-- an order that a record grants is no earlier than those before
pub granted_last : {policy : PolicyData} {history : List RecordData} (step : Step) (r : RecordData) → IsLegal policy history → next policy history step ≡ Some r
    → AllByRecursion (λ (o : Order). AllByRecursion (IsNoLater o) (orders policy history)) (orders_added policy (orders policy history) r)
granted_last {policy} {history} step r legal left =
    let later : last_moment history ≤ r.moment = no_earlier policy history step r left in
    all_weaker (IsAt r) (λ (o : Order). AllByRecursion (IsNoLater o) (orders policy history))
    (λ o here. all_weaker (λ (x : Order). x.moment ≤ last_moment history) (IsNoLater o) (λ x h. omega (arith, h, later, here)) (orders policy history) (orders_by_now legal))
    (orders_added policy (orders policy history) r) (added_at policy (orders policy history) r (granted_of r))
