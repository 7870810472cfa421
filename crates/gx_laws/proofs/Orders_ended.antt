-- After a granted Kill or Close Day none of the orders that it ends is live.
use Rattle.std.proofs.{Common.{◌≡◌, ℕ, ◌+◌, ◌<◌, ◌≤◌, length, Bool, true, false, List, [], ◌∷◌, ◌++◌, refl, ◌∙◌, ap, cond, arith}, lemmas.{Bool.{lt-ltb, ltb-true}, List.append-nil, Option.same_Some}}
use Rattle.std.specs.{Prelude.{Option, Some, None, option_and_then, ◌&&◌, ◌||◌, nat_lt, not, option_to_list, unwrap_or}, Option.option_map_or, List.{cons_option, list_any, filter_map, AllByRecursion}}
use Rattle.gx_units.specs.declared.names.UserName.{UserName}
use Rattle.gx_desk.specs.declared.Action.{Action}
use Rattle.gx_policy.specs.declared.policy.PolicyData.{PolicyData}
use Rattle.gx_history.specs.{declared.{live_order.LiveOrder.LiveOrder, «record».{Asked.Asked, RecordData.RecordData, Request.Request}}, Book.{rest_numbers, rested_of}, Executions.{Execution, done, executions, sides}, Live.{has_come, live, open_now, open_order, open_with}, Orders.{Order, orders, orders_added, orders_made, total, is_dead, ends, ends_account, ends_by_request, expires, size_set}, Requests.{granted_of, granted_action, action_of}, Verdicts.{IsLegal, Follows}}
use Rattle.gx_laws.proofs.{Orders_next.{live_next, open_next}, Streams_next.legal_before, Orders_numbered.{numbers_are_within, next_number}}
use Rattle.gx_units.proofs.Test_known.{or_true}

-- a granted command makes no order
pub none_added : (policy : PolicyData) (known : List Order) (r : RecordData) (action : Action) → granted_action r ≡ Some action → orders_added policy known r ≡ []
none_added policy known r action h = of_asked (granted_of r) h
  where
    of_request : (user : UserName) (q : Request) → action_of q ≡ Some action → orders_made policy known r user q ≡ []
    of_request user (Request.Command c) k = refl
    of_request user (Request.Login m) k = cc
    of_request user Request.Logout k = cc
    of_request user (Request.Unreadable m) k = cc
    of_request user (Request.Enter m) k = cc
    of_request user (Request.Replace m) k = cc
    of_request user (Request.Cancel m) k = cc

    of_asked : (found : Option Asked) → option_and_then (λ (a : Asked). action_of a.request) found ≡ Some action
        → option_map_or (λ (a : Asked). orders_made policy known r a.user a.request) found [] ≡ []
    of_asked None k = refl
    of_asked (Some a) k = of_request a.user a.request k

-- a granted command ends the earlier orders that it is for
pub ended : (o : Order) (r : RecordData) (action : Action) → granted_action r ≡ Some action → o.number < r.number → ends_account o.account action ≡ true → ends o r ≡ true
ended o r action h early for_it =
    ap (λ (b : Bool). b && (expires o.number r.verdict || option_map_or (λ (a : Asked). ends_by_request o a.user a.request) (granted_of r) false)) (lt-ltb o.number r.number early)
    ∙ ap (λ (b : Bool). expires o.number r.verdict || b) (of_asked (granted_of r) h)
    ∙ or_true (expires o.number r.verdict)
  where
    of_request : (user : UserName) (q : Request) → action_of q ≡ Some action → ends_by_request o user q ≡ true
    of_request user (Request.Command c) k = ap (ends_account o.account) (same_Some _ _ k) ∙ for_it
    of_request user (Request.Login m) k = cc
    of_request user Request.Logout k = cc
    of_request user (Request.Unreadable m) k = cc
    of_request user (Request.Enter m) k = cc
    of_request user (Request.Replace m) k = cc
    of_request user (Request.Cancel m) k = cc

    of_asked : (found : Option Asked) → option_and_then (λ (a : Asked). action_of a.request) found ≡ Some action
        → option_map_or (λ (a : Asked). ends_by_request o a.user a.request) found false ≡ true
    of_asked None k = cc
    of_asked (Some a) k = of_request a.user a.request k

pub sooner : (limit number : ℕ) → number ≡ limit + 1 → (os : List Order) → AllByRecursion (λ (o : Order). o.number ≤ limit) os → AllByRecursion (λ (o : Order). o.number < number) os
sooner limit number e [] h = tt
sooner limit number e (o ∷ os) h = (omega arith, sooner limit number e os h.1)

-- a live order that a granted command is for is live no more
none_open : (policy : PolicyData) (history : List RecordData) (r : RecordData) (o : Order) → ends o r ≡ true → open_now (executions policy (history ++ r ∷ [])) (history ++ r ∷ []) o ≡ None
none_open policy history r o h = open_next policy history r o true (size_set o r) (done (sides policy history r.verdict) o) h refl refl ∙ at (is_dead history o)
  where
    at : (b : Bool) → open_with o (b || true) (unwrap_or (size_set o r) (total history o)) (done (executions policy history) o + done (sides policy history r.verdict) o) (not (has_come (rest_numbers history ++ option_to_list (rested_of r.verdict)) o.number)) ≡ None
    at true = refl
    at false = refl

abbrev is_for : Action → LiveOrder → Bool
is_for action o = ends_account o.account action

-- what is found of an order is for its account
for_account : (made : List Execution) (history : List RecordData) (o : Order) (action : Action) (found : List LiveOrder) → list_any (is_for action) found ≡ false → ends_account o.account action ≡ false
    → list_any (is_for action) (cons_option (open_now made history o) found) ≡ false
for_account made history o action found rest e = at (not (is_dead history o) && nat_lt (done made o) (total history o))
  where
    at : (b : Bool) → list_any (is_for action) (cons_option (cond b (Some (open_order o (total history o) (done made o) (not (has_come (rest_numbers history) o.number)))) None) found) ≡ false
    at true = ap (λ (b : Bool). b || list_any (is_for action) found) e ∙ rest
    at false = rest

none_live : (policy : PolicyData) (history : List RecordData) (r : RecordData) (action : Action) → granted_action r ≡ Some action
    → (os : List Order) → AllByRecursion (λ (o : Order). o.number < r.number) os
    → list_any (is_for action) (filter_map (open_now (executions policy (history ++ r ∷ [])) (history ++ r ∷ [])) os) ≡ false
none_live policy history r action h [] early = refl
none_live policy history r action h (o ∷ os) early = at (ends_account o.account action) refl (none_live policy history r action h os early.1)
  where
    rest : List LiveOrder
    rest = filter_map (open_now (executions policy (history ++ r ∷ [])) (history ++ r ∷ [])) os

    at : (b : Bool) → ends_account o.account action ≡ b → list_any (is_for action) rest ≡ false → list_any (is_for action) (cons_option (open_now (executions policy (history ++ r ∷ [])) (history ++ r ∷ []) o) rest) ≡ false
    at true e deeper = ap (λ (found : Option LiveOrder). list_any (is_for action) (cons_option found rest)) (none_open policy history r o (ended o r action h early.0 e)) ∙ deeper
    at false e deeper = for_account (executions policy (history ++ r ∷ [])) (history ++ r ∷ []) o action rest deeper e

pub ended_are_not_live : (policy : PolicyData) (history : List RecordData) (r : RecordData) (action : Action) → IsLegal policy (history ++ r ∷ []) → granted_action r ≡ Some action
    → list_any (λ (o : LiveOrder). ends_account o.account action) (live policy (history ++ r ∷ [])) ≡ false
ended_are_not_live policy history r action legal h =
    let parts : IsLegal policy history × Follows policy (history, r) = legal_before history r legal in
    let after : Order → Option LiveOrder = open_now (executions policy (history ++ r ∷ [])) (history ++ r ∷ []) in
    ap (list_any (is_for action)) (live_next policy history r ∙ ap (λ (os : List Order). filter_map after (orders policy history) ++ filter_map after os) (none_added policy (orders policy history) r action h) ∙ append-nil (filter_map after (orders policy history)))
    ∙ none_live policy history r action h (orders policy history) (sooner (length history) r.number (next_number r parts.1) (orders policy history) (numbers_are_within policy history parts.0))

-- a live order has shares open
only_open : (made : List Execution) (history : List RecordData) (os : List Order) → AllByRecursion (λ (o : LiveOrder). o.done < o.total) (filter_map (open_now made history) os)
only_open made history [] = tt
only_open made history (o ∷ os) = at (not (is_dead history o)) (nat_lt (done made o) (total history o)) refl (only_open made history os)
  where
    x : LiveOrder
    x = open_order o (total history o) (done made o) (not (has_come (rest_numbers history) o.number))

    at : (b c : Bool) → nat_lt (done made o) (total history o) ≡ c → AllByRecursion (λ (o : LiveOrder). o.done < o.total) (filter_map (open_now made history) os)
        → AllByRecursion (λ (o : LiveOrder). o.done < o.total) (cons_option (cond (b && c) (Some x) None) (filter_map (open_now made history) os))
    at true true e rest = (ltb-true (done made o) (total history o) e, rest)
    at true false e rest = rest
    at false c e rest = rest

pub live_have_open : (policy : PolicyData) (history : List RecordData) → AllByRecursion (λ (o : LiveOrder). o.done < o.total) (live policy history)
unfolding live
live_have_open policy history = only_open (executions policy history) history (orders policy history)
