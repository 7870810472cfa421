-- What is found of each element of a list; a live order is its order, open; and a number past all records is of none that rested.
use Rattle.std.proofs.{Common.{◌≡◌, ℕ, ◌+◌, ◌<◌, ◌≤◌, Bool, true, false, List, [], ◌∷◌, refl, ◌∙◌, ap, length, arith, cond}, lemmas.{Bool.ne_eqb, Option.same_Some}}
use Rattle.std.specs.{Prelude.{Some, None, ◌&&◌, ◌||◌, ◌==◌, not, nat_lt}, List.{list_any, AllByRecursion}}
use Rattle.gx_units.proofs.Lists_hold.{all_weaker}
use Rattle.gx_policy.specs.declared.policy.PolicyData.{PolicyData}
use Rattle.gx_history.specs.{declared.{live_order.LiveOrder.LiveOrder, «record».RecordData.RecordData}, Live.{open_order, open_with}, Orders.Order, Verdicts.IsLegal}
use Rattle.gx_laws.proofs.{Orders_numbered.records_are_within, NewOrders_open.AreBefore}

-- a live order is its order, open
pub open_parts : (x : Order) (dead : Bool) (size gone : ℕ) (waits : Bool) (o : LiveOrder) → open_with x dead size gone waits ≡ Some o → (dead ≡ false) × (nat_lt gone size ≡ true) × (open_order x size gone waits ≡ o)
open_parts x dead size gone waits o h = at dead (nat_lt gone size) refl refl h
  where
    at : (b c : Bool) → dead ≡ b → nat_lt gone size ≡ c → cond (not b && c) (Some (open_order x size gone waits)) None ≡ Some o → (dead ≡ false) × (nat_lt gone size ≡ true) × (open_order x size gone waits ≡ o)
    at true c e f k = cc
    at false true e f k = (e, f, same_Some _ _ k)
    at false false e f k = cc

pub not_among : (limit number : ℕ) (ns : List ℕ) → limit < number → AllByRecursion (λ (n : ℕ). n ≤ limit) ns → list_any (λ n. n == number) ns ≡ false
not_among limit number [] late h = refl
not_among limit number (n ∷ ns) late h =
    ap (λ (b : Bool). b || list_any (λ n. n == number) ns) (ne_eqb n number (λ same. absurd (at same h.0))) ∙ not_among limit number ns late h.1
  where
    at : n ≡ number → n ≤ limit → ⊥
    at same small = absurd (omega arith)

pub all_before_it : {policy : PolicyData} {history : List RecordData} (number : ℕ) → IsLegal policy history → number ≡ length history + 1 → AreBefore number history
all_before_it {history} number legal place =
    all_weaker (λ (x : RecordData). x.number ≤ length history) (λ (x : RecordData). x.number < number) (λ x h. omega arith) history (records_are_within legal)
