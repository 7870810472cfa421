-- Each order is its user's account's.
use Rattle.std.proofs.{Common.{◌≡◌, Bool, List, [], ◌∷◌, ◌++◌, refl}, Math.Path.subst, lemmas.Option.same_Some}
use Rattle.std.specs.{Prelude.{Option, Some, None, fold, ◌&&◌}, Option.option_map_or, List.{AllByRecursion, filter, last_or}}
use Rattle.gx_units.specs.{Names.{same_user, same_token}, declared.names.{AccountName.AccountName, UserName.UserName}}
use Rattle.gx_units.proofs.Lists_hold.{all_both, filtered}
use Rattle.gx_ouch.specs.declared.inbound.{EnterOrder.EnterOrder, ReplaceOrder.ReplaceOrder}
use Rattle.gx_history.specs.{declared.record.{Asked.Asked, RecordData.RecordData, Request.Request}, Requests.granted_of, Orders.{Order, orders, orders_with, orders_added, orders_made, order_under, order_entered, order_replacing}}
use Rattle.gx_policy.specs.{declared.policy.PolicyData.PolicyData, Lists.last_such, People.account_of}

-- what was found last is one of the list, or the one before it
pub found_last : {X : Type 0} (P : X → Type 0) (start : Option X) (xs : List X) (x : X) → (start ≡ Some x → P x) → AllByRecursion P xs → last_or start xs ≡ Some x → P x
found_last P start [] x first h e = first e
found_last P start (y ∷ ys) x first h e = found_last P (Some y) ys x (λ same. subst P (same_Some _ _ same) h.0) h.1 e

pub nothing_found : {X : Type 0} (P : X → Type 0) (x : X) → None ≡ Some x → P x
nothing_found P x e = cc

pub last_such_is : {X : Type 0} (P : X → Type 0) (test : X → Bool) (xs : List X) (x : X) → AllByRecursion P xs → last_such test xs ≡ Some x → P x
last_such_is P test xs x h e = found_last P None (filter test xs) x (nothing_found P x) (filtered P test xs h) e

-- the order's account is the one that its user trades for
abbrev pub IsHisAccounts : PolicyData → Order → Type 0
IsHisAccounts policy o = account_of policy o.user ≡ Some o.account

enter_is : (policy : PolicyData) (r : RecordData) (user : UserName) (m : EnterOrder) (found : Option AccountName) → account_of policy user ≡ found
    → AllByRecursion (IsHisAccounts policy) (option_map_or (λ account. order_entered policy r user account m ∷ []) found [])
enter_is policy r user m None e = tt
enter_is policy r user m (Some account) e = (e, tt)

replace_is : (policy : PolicyData) (known : List Order) (r : RecordData) (user : UserName) (m : ReplaceOrder) (found : Option Order) → order_under known user m.existing_token ≡ found
    → AllByRecursion (IsHisAccounts policy) known → AllByRecursion (IsHisAccounts policy) (option_map_or (λ o. order_replacing r m o ∷ []) found [])
replace_is policy known r user m None e h = tt
replace_is policy known r user m (Some o) e h =
    (last_such_is (IsHisAccounts policy) (λ (x : Order). same_user x.user user && same_token x.token m.existing_token) known o h e, tt)

made_is : (policy : PolicyData) (known : List Order) (r : RecordData) (user : UserName) (q : Request) → AllByRecursion (IsHisAccounts policy) known
    → AllByRecursion (IsHisAccounts policy) (orders_made policy known r user q)
made_is policy known r user (Request.Login m) h = tt
made_is policy known r user Request.Logout h = tt
made_is policy known r user (Request.Unreadable m) h = tt
made_is policy known r user (Request.Enter m) h = enter_is policy r user m (account_of policy user) refl
made_is policy known r user (Request.Replace m) h = replace_is policy known r user m (order_under known user m.existing_token) refl h
made_is policy known r user (Request.Cancel m) h = tt
made_is policy known r user (Request.Command c) h = tt

added_is : (policy : PolicyData) (known : List Order) (r : RecordData) (found : Option Asked) → AllByRecursion (IsHisAccounts policy) known
    → AllByRecursion (IsHisAccounts policy) (option_map_or (λ (a : Asked). orders_made policy known r a.user a.request) found [])
added_is policy known r None h = tt
added_is policy known r (Some a) h = made_is policy known r a.user a.request h

all_orders_are : (policy : PolicyData) (known : List Order) (history : List RecordData) → AllByRecursion (IsHisAccounts policy) known
    → AllByRecursion (IsHisAccounts policy) (fold (orders_with policy) known history)
all_orders_are policy known [] h = h
all_orders_are policy known (r ∷ history) h =
    all_orders_are policy (known ++ orders_added policy known r) history
    (all_both (IsHisAccounts policy) known (orders_added policy known r) h (added_is policy known r (granted_of r) h))

pub orders_are_their_users : (policy : PolicyData) (history : List RecordData) → AllByRecursion (IsHisAccounts policy) (orders policy history)
unfolding orders
orders_are_their_users policy history = all_orders_are policy [] history tt
