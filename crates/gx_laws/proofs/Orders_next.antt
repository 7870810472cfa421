-- What one more record changes in orders, sizes and open shares.
use Rattle.std.proofs.{Common.{◌≡◌, ℕ, ◌+◌, Bool, List, [], ◌∷◌, ◌++◌, refl, ◌∙◌, ap}, lemmas.List.{Elements.filter_map-append, Sums.{fold_push, sum_by-append}}}
use Rattle.std.specs.{Prelude.{Option, Some, None, unwrap_or, ◌||◌, not, option_to_list}, List.{filter_map, cons_option}}
use Rattle.gx_units.specs.declared.names.{Token.Token, UserName.UserName}
use Rattle.gx_policy.specs.declared.policy.PolicyData.{PolicyData}
use Rattle.gx_history.specs.{declared.{live_order.LiveOrder.LiveOrder, «record».RecordData.RecordData}, Book.{rest_numbers, rested_of}, Executions.{Execution, done, executed_shares, executions, executions_of, shares_for, sides}, Live.{has_come, live, open_now, open_with}, Orders.{Order, orders, orders_with, orders_added, total, size_set, is_dead, ends, is_token_used, record_uses}}
use Rattle.gx_laws.proofs.Lists_next.{last_value_next, list_any_next, flat_map_next, sum_same, sum_of_both, sum_of_nothing}

pub orders_none : (policy : PolicyData) → orders policy [] ≡ []
unfolding orders
orders_none policy = refl

pub orders_next : (policy : PolicyData) (history : List RecordData) (r : RecordData)
    → orders policy (history ++ r ∷ []) ≡ orders policy history ++ orders_added policy (orders policy history) r
unfolding orders
orders_next policy history r = fold_push (orders_with policy) [] history r

pub is_dead_next : (history : List RecordData) (r : RecordData) (o : Order) → is_dead (history ++ r ∷ []) o ≡ (is_dead history o || ends o r)
unfolding is_dead
is_dead_next history r o = list_any_next (ends o) history r

pub total_next : (history : List RecordData) (r : RecordData) (o : Order) → total (history ++ r ∷ []) o ≡ unwrap_or (size_set o r) (total history o)
unfolding total
total_next history r o = last_value_next (size_set o) o.terms.shares history r

pub is_token_used_next : (history : List RecordData) (r : RecordData) (user : UserName) (token : Token)
    → is_token_used (history ++ r ∷ []) user token ≡ (is_token_used history user token || record_uses user token r)
unfolding is_token_used
is_token_used_next history r user token = list_any_next (record_uses user token) history r

pub executions_none : (policy : PolicyData) → executions policy [] ≡ []
unfolding executions
executions_none policy = refl

pub executions_next : (policy : PolicyData) (history : List RecordData) (r : RecordData)
    → executions policy (history ++ r ∷ []) ≡ executions policy history ++ sides policy history r.verdict
unfolding executions
executions_next policy history r = flat_map_next (executions_of policy) history r

-- shares executed by more sides are added
pub executed_more : (made more : List Execution) (number : ℕ) → executed_shares (made ++ more) number ≡ executed_shares made number + executed_shares more number
unfolding executed_shares
executed_more made more number = sum_by-append (shares_for number) made more

pub done_none : (o : Order) → done [] o ≡ 0
unfolding done executed_shares
done_none o = sum_of_nothing (o.number ∷ o.replaced)

pub done_more : (made more : List Execution) (o : Order) → done (made ++ more) o ≡ done made o + done more o
unfolding done
done_more made more o =
    sum_same (executed_shares (made ++ more)) (λ n. executed_shares made n + executed_shares more n) (λ n. executed_more made more n) (o.number ∷ o.replaced)
    ∙ sum_of_both (executed_shares made) (executed_shares more) (o.number ∷ o.replaced)

pub done_next : (policy : PolicyData) (history : List RecordData) (r : RecordData) (o : Order)
    → done (executions policy (history ++ r ∷ [])) o ≡ done (executions policy history) o + done (sides policy history r.verdict) o
done_next policy history r o =
    ap (λ made. done made o) (executions_next policy history r) ∙ done_more (executions policy history) (sides policy history r.verdict) o

one_rested : (found : Option ℕ) → cons_option found [] ≡ option_to_list found
one_rested None = refl
one_rested (Some n) = refl

pub rested_next : (history : List RecordData) (r : RecordData) → rest_numbers (history ++ r ∷ []) ≡ rest_numbers history ++ option_to_list (rested_of r.verdict)
rested_next history r =
    filter_map-append (λ (x : RecordData). rested_of x.verdict) history (r ∷ [])
    ∙ ap (λ ns. rest_numbers history ++ ns) (one_rested (rested_of r.verdict))

-- an order after one more record, by what the record says of it
pub open_next : (policy : PolicyData) (history : List RecordData) (r : RecordData) (o : Order) (e : Bool) (z : Option ℕ) (k : ℕ) → ends o r ≡ e → size_set o r ≡ z → done (sides policy history r.verdict) o ≡ k
    → open_now (executions policy (history ++ r ∷ [])) (history ++ r ∷ []) o
    ≡ open_with o (is_dead history o || e) (unwrap_or z (total history o)) (done (executions policy history) o + k) (not (has_come (rest_numbers history ++ option_to_list (rested_of r.verdict)) o.number))
open_next policy history r o e z k ends_so sizes_so fills_so =
    let now : List RecordData = history ++ r ∷ [] in
    let gone : done (executions policy now) o ≡ done (executions policy history) o + k = done_next policy history r o ∙ ap (λ (n : ℕ). done (executions policy history) o + n) fills_so in
    ap (λ (b : Bool). open_with o b (total now o) (done (executions policy now) o) (not (has_come (rest_numbers now) o.number))) (is_dead_next history r o ∙ ap (λ (b : Bool). is_dead history o || b) ends_so)
    ∙ ap (λ (n : ℕ). open_with o (is_dead history o || e) n (done (executions policy now) o) (not (has_come (rest_numbers now) o.number))) (total_next history r o ∙ ap (λ (m : Option ℕ). unwrap_or m (total history o)) sizes_so)
    ∙ ap (λ (n : ℕ). open_with o (is_dead history o || e) (unwrap_or z (total history o)) n (not (has_come (rest_numbers now) o.number))) gone
    ∙ ap (λ (ns : List ℕ). open_with o (is_dead history o || e) (unwrap_or z (total history o)) (done (executions policy history) o + k) (not (has_come ns o.number))) (rested_next history r)

pub live_next : (policy : PolicyData) (history : List RecordData) (r : RecordData)
    → live policy (history ++ r ∷ [])
    ≡ filter_map (open_now (executions policy (history ++ r ∷ [])) (history ++ r ∷ [])) (orders policy history)
    ++ filter_map (open_now (executions policy (history ++ r ∷ [])) (history ++ r ∷ [])) (orders_added policy (orders policy history) r)
unfolding live
live_next policy history r =
    let after : Order → Option LiveOrder = open_now (executions policy (history ++ r ∷ [])) (history ++ r ∷ []) in
    ap (filter_map after) (orders_next policy history r) ∙ filter_map-append after (orders policy history) (orders_added policy (orders policy history) r)
