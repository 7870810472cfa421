-- Live orders are no more than records.
use Rattle.std.proofs.{Common.{◌≡◌, ℕ, ◌+◌, ◌<◌, ◌≤◌, ◌^◌, arith, List, [], ◌∷◌, ◌++◌, length, length-append}, lemmas.List.Sums.{count_by-le-length, length-filter}}
use Rattle.std.specs.{Prelude.{Option, Some, None, fold}, Option.option_map_or}
use Rattle.gx_units.specs.{Names.same_account, declared.names.{AccountName.AccountName, UserName.UserName}}
use Rattle.gx_units.proofs.Lists_found.{few_found}
use Rattle.gx_policy.specs.{declared.policy.PolicyData.PolicyData, People.account_of}
use Rattle.gx_history.specs.{declared.{live_order.LiveOrder.LiveOrder, «record».{Asked.Asked, RecordData.RecordData, Request.Request}}, Executions.executions, Live.{live, open_now}, Orders.{Order, order_entered, order_under, orders, orders_added, orders_made, orders_with, order_replacing}, Requests.granted_of}
use Rattle.gx_slab.specs.Slabs.{of_account}

at_most_one : {X : Type 0} (f : X → Order) (found : Option X) → length (option_map_or (λ (x : X). f x ∷ []) found []) ≤ 1
at_most_one f None = omega arith
at_most_one f (Some x) = omega arith

one_is_made : (policy : PolicyData) (known : List Order) (r : RecordData) (user : UserName) (q : Request) → length (orders_made policy known r user q) ≤ 1
one_is_made policy known r user (Request.Enter m) = at_most_one (λ (account : AccountName). order_entered policy r user account m) (account_of policy user)
one_is_made policy known r user (Request.Replace m) = at_most_one (λ (o : Order). order_replacing r m o) (order_under known user m.existing_token)
one_is_made policy known r user (Request.Login m) = omega arith
one_is_made policy known r user Request.Logout = omega arith
one_is_made policy known r user (Request.Unreadable m) = omega arith
one_is_made policy known r user (Request.Cancel m) = omega arith
one_is_made policy known r user (Request.Command c) = omega arith

one_is_added : (policy : PolicyData) (known : List Order) (r : RecordData) → length (orders_added policy known r) ≤ 1
one_is_added policy known r = by (granted_of r)
  where
    by : (found : Option Asked) → length (option_map_or (λ (a : Asked). orders_made policy known r a.user a.request) found []) ≤ 1
    by None = omega arith
    by (Some a) = one_is_made policy known r a.user a.request

-- a record adds one order at most
orders_from : (policy : PolicyData) (known : List Order) (records : List RecordData) → length (fold (orders_with policy) known records) ≤ length known + length records
orders_from policy known [] = omega arith
orders_from policy known (r ∷ records) =
    let more : length (fold (orders_with policy) (known ++ orders_added policy known r) records) ≤ length (known ++ orders_added policy known r) + length records =
    orders_from policy (known ++ orders_added policy known r) records in
    let parts : length (known ++ orders_added policy known r) ≡ length known + length (orders_added policy known r) = length-append known (orders_added policy known r) in
    let one : length (orders_added policy known r) ≤ 1 = one_is_added policy known r in
    omega arith

orders_are_few : (policy : PolicyData) (records : List RecordData) → length (orders policy records) ≤ length records
unfolding orders
orders_are_few policy records = omega (arith, orders_from policy [] records)

-- where the records are, so are the live orders
pub live_are_few : (policy : PolicyData) (records : List RecordData) (n : ℕ) → n ≡ length records → n < 2 ^ 63 → length (live policy records) < 2 ^ 63
unfolding live
live_are_few policy records n is few = omega (arith, few_found (open_now (executions policy records) records) (orders policy records), orders_are_few policy records)

-- and those of an account
pub those_are_few : (account : AccountName) (policy : PolicyData) (records : List RecordData) (n : ℕ) → n ≡ length records → n < 2 ^ 63 → length (of_account account (live policy records)) < 2 ^ 63
those_are_few account policy records n is few =
    let passes : LiveOrder → _ = λ (o : LiveOrder). same_account account o.account in
    omega (arith, live_are_few policy records n is few, length-filter passes (live policy records), count_by-le-length passes (live policy records))
