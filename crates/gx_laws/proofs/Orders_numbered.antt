-- In a legal history an order's number is that of a record.
use Rattle.std.proofs.{Common.{◌≡◌, ◌+◌, ◌≤◌, List, [], ◌∷◌, ◌++◌, refl, sym, length, arith}, Math.Path.subst, lemmas.List.length-append}
use Rattle.std.specs.{Prelude.{Option, Some, None}, Option.option_map_or, List.AllByRecursion}
use Rattle.gx_units.specs.declared.names.{AccountName.AccountName, UserName.UserName}
use Rattle.gx_units.proofs.Lists_hold.{all_weaker, all_both, all_next}
use Rattle.gx_ouch.specs.declared.inbound.{EnterOrder.EnterOrder, ReplaceOrder.ReplaceOrder}
use Rattle.gx_history.specs.{declared.record.{Asked.Asked, RecordData.RecordData, Request.Request, Step.Step}, Requests.granted_of, Orders.{Order, orders, orders_added, orders_made, order_under, order_entered, order_replacing}, Verdicts.{Follows, IsLegal, moment_of, next, step_verdict}}
use Rattle.gx_policy.specs.{declared.policy.PolicyData.PolicyData, People.account_of}
use Rattle.gx_laws.proofs.{Requests_judged.legal_keeps, Records_numbered.some_number, Orders_next.{orders_none, orders_next}}

abbrev IsOf : RecordData → Order → Type 0
IsOf r o = o.number ≡ r.number

enter_of : (policy : PolicyData) (r : RecordData) (user : UserName) (m : EnterOrder) (found : Option AccountName) → AllByRecursion (IsOf r) (option_map_or (λ account. order_entered policy r user account m ∷ []) found [])
enter_of policy r user m None = tt
enter_of policy r user m (Some account) = (refl, tt)

replace_of : (r : RecordData) (m : ReplaceOrder) (found : Option Order) → AllByRecursion (IsOf r) (option_map_or (λ o. order_replacing r m o ∷ []) found [])
replace_of r m None = tt
replace_of r m (Some o) = (refl, tt)

made_of_record : (policy : PolicyData) (known : List Order) (r : RecordData) (user : UserName) (q : Request) → AllByRecursion (IsOf r) (orders_made policy known r user q)
made_of_record policy known r user (Request.Login m) = tt
made_of_record policy known r user Request.Logout = tt
made_of_record policy known r user (Request.Unreadable m) = tt
made_of_record policy known r user (Request.Enter m) = enter_of policy r user m (account_of policy user)
made_of_record policy known r user (Request.Replace m) = replace_of r m (order_under known user m.existing_token)
made_of_record policy known r user (Request.Cancel m) = tt
made_of_record policy known r user (Request.Command c) = tt

added_of : (policy : PolicyData) (known : List Order) (r : RecordData) (found : Option Asked)
    → AllByRecursion (IsOf r) (option_map_or (λ (a : Asked). orders_made policy known r a.user a.request) found [])
added_of policy known r None = tt
added_of policy known r (Some a) = made_of_record policy known r a.user a.request

-- an added order has its record's number
pub added_has_number : (policy : PolicyData) (known : List Order) (r : RecordData) → AllByRecursion (IsOf r) (orders_added policy known r)
added_has_number policy known r = added_of policy known r (granted_of r)

-- the number of the record that a step leaves
pub number_left : (policy : PolicyData) (history : List RecordData) (step : Step) (r : RecordData) → next policy history step ≡ Some r → r.number ≡ length history + 1
unfolding next
number_left policy history step r e = some_number (length history + 1) (moment_of history step) step (step_verdict policy history step) r e

pub next_number : {policy : PolicyData} {history : List RecordData} (r : RecordData) → Follows policy (history, r) → r.number ≡ length history + 1
next_number {policy} {history} r follows = number_left policy history r.step r follows.is_next

-- each record's number is at most the length
abbrev pub RecordsAreWithin : List RecordData → Type 0
RecordsAreWithin history = AllByRecursion (λ (r : RecordData). r.number ≤ length history) history

one_more_record : {policy : PolicyData} {history : List RecordData} (r : RecordData) → RecordsAreWithin history → Follows policy (history, r) → RecordsAreWithin (history ++ r ∷ [])
one_more_record {history} r within follows =
    let size : length (history ++ r ∷ []) ≡ length history + 1 = length-append history (r ∷ []) in
    let number : r.number ≡ length history + 1 = next_number r follows in
    all_next (λ (x : RecordData). x.number ≤ length (history ++ r ∷ [])) history r
    (all_weaker (λ (x : RecordData). x.number ≤ length history) (λ (x : RecordData). x.number ≤ length (history ++ r ∷ [])) (λ x h. omega arith) history within)
    (omega arith)

pub records_are_within : {policy : PolicyData} {history : List RecordData} → IsLegal policy history → RecordsAreWithin history
records_are_within legal = legal_keeps RecordsAreWithin tt (λ h r within follows. one_more_record r within follows) legal

abbrev pub NumbersAreWithin : PolicyData → List RecordData → Type 0
NumbersAreWithin policy history = AllByRecursion (λ (o : Order). o.number ≤ length history) (orders policy history)

pub one_more_within : {policy : PolicyData} {history : List RecordData} (r : RecordData) → NumbersAreWithin policy history → Follows policy (history, r) → NumbersAreWithin policy (history ++ r ∷ [])
one_more_within {policy} {history} r within follows =
    let size : length (history ++ r ∷ []) ≡ length history + 1 = length-append history (r ∷ []) in
    let number : r.number ≡ length history + 1 = next_number r follows in
    subst (λ (os : List Order). AllByRecursion (λ (o : Order). o.number ≤ length (history ++ r ∷ [])) os) (sym (orders_next policy history r))
    (all_both (λ (o : Order). o.number ≤ length (history ++ r ∷ [])) (orders policy history) (orders_added policy (orders policy history) r)
    (all_weaker (λ (o : Order). o.number ≤ length history) (λ (o : Order). o.number ≤ length (history ++ r ∷ [])) (λ o h. omega arith) (orders policy history) within)
    (all_weaker (IsOf r) (λ (o : Order). o.number ≤ length (history ++ r ∷ [])) (λ o h. omega arith) (orders_added policy (orders policy history) r) (added_has_number policy (orders policy history) r)))

pub none_within : (policy : PolicyData) → NumbersAreWithin policy []
none_within policy = subst (λ (os : List Order). AllByRecursion (λ (o : Order). o.number ≤ 0) os) (sym (orders_none policy)) tt

pub numbers_are_within : (policy : PolicyData) (history : List RecordData) → IsLegal policy history → NumbersAreWithin policy history
numbers_are_within policy history legal =
    legal_keeps (NumbersAreWithin policy) (none_within policy) (λ h r within follows. one_more_within r within follows) legal
