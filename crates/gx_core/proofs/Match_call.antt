-- What a matching step makes of a gate.
use Rattle.std.proofs.Common.{◌≡◌, ℕ, ◌+◌, length, List, [], ◌∷◌, ◌++◌, ◌∙◌, ap, sym}
use Rattle.std.specs.Prelude.{None, Some, option_map}
use Rattle.gx_policy.specs.declared.policy.PolicyData.{PolicyData}
use Rattle.gx_history.specs.{declared.{«record».{RecordData.RecordData, Step.Step, Verdict.Verdict}, live_order.LiveOrder.LiveOrder}, Matching.matching, Verdicts.{IsLegal, moment_of, next, step_verdict}, Live.live}
use Rattle.gx_laws.proofs.{Runs_orderly.legal_is_orderly, Matches_end.settled_step}
use Rattle.gx_book.specs.Books.{StockOrders}
use Rattle.gx_matching.proofs.Orders_meet.{matching_is_met}
use Rattle.gx_matching.specs.Meeting.{best_against, match_record, outcome_against, next_outcome}
use Rattle.gx_orders.specs.{InForce.orders_in_force, LiveOrders.{OrdersData, first_waiting}}
use Rattle.gx_gate_state.specs.declared.state.GateState.{GateState}
use Rattle.gx_access_gate.specs.{Gates.{GateData, matched_by}, Matches.settled_gate}
use Rattle.gx_core.specs.Kept.{IsKept}

-- the first that waits, against the best that rests on the other side, as they are kept
met_by_kept : {policy : PolicyData} {history : List RecordData} (k : GateState) → IsKept policy history k → next_outcome k.orders k.book ≡ matching policy history
met_by_kept {policy} {history} k kept =
    ap (λ (orders : OrdersData). next_outcome orders k.book) kept.in_force.orders
    ∙ ap (λ (book : List StockOrders). next_outcome (orders_in_force policy history) book) kept.in_force.book
    ∙ matching_is_met policy history kept.legal

-- where no order waits there is nothing to match
pub nothing_is_met : {policy : PolicyData} {history : List RecordData} (k : GateState) → IsKept policy history k → first_waiting k.orders.live ≡ None → matching policy history ≡ None
nothing_is_met k kept none =
    sym (met_by_kept k kept) ∙ ap (option_map (λ (o : LiveOrder). outcome_against o (best_against k.book o))) none

pub nothing_is_next : {policy : PolicyData} {history : List RecordData} (handed : ℕ) (k : GateState) → IsKept policy history k → first_waiting k.orders.live ≡ None
    → next policy history (Step.Matching handed) ≡ None
unfolding next step_verdict
nothing_is_next {history} handed k kept none = ap (option_map (match_record history handed)) (nothing_is_met k kept none)

-- else it is the first that waits
pub first_is_met : {policy : PolicyData} {history : List RecordData} (k : GateState) (first : LiveOrder) → IsKept policy history k → first_waiting k.orders.live ≡ Some first
    → matching policy history ≡ Some (outcome_against first (best_against k.book first))
first_is_met k first kept waits =
    sym (met_by_kept k kept) ∙ ap (option_map (λ (o : LiveOrder). outcome_against o (best_against k.book o))) waits

-- the first that waits is the one that is kept
pub first_is_known : (policy : PolicyData) (history : List RecordData) (k : GateState) → IsKept policy history k
    → first_waiting k.orders.live ≡ first_waiting (live policy history)
first_is_known policy history k kept = ap (λ (orders : OrdersData). first_waiting orders.live) kept.in_force.orders

-- the record that a matching step leaves, by its parts
pub match_in_parts : (policy : PolicyData) (history : List RecordData) (handed number moment : ℕ) (v : Verdict)
    → number ≡ length history + 1 → moment ≡ moment_of history (Step.Matching handed) → matching policy history ≡ Some v
    → next policy history (Step.Matching handed) ≡ Some (matched_by handed (record { number = number; moment = moment; verdict = v }))
unfolding next step_verdict
match_in_parts policy history handed number moment v number_is moment_is matches =
    ap (option_map (match_record history handed)) matches
    ∙ ap (λ (n : ℕ). Some (matched_by handed (record { number = n; moment = moment_of history (Step.Matching handed); verdict = v }))) (sym number_is)
    ∙ ap (λ (m : ℕ). Some (matched_by handed (record { number = number; moment = m; verdict = v }))) (sym moment_is)

-- the steps that are left come to the same
pub settles_on : {policy : PolicyData} {history : List RecordData} (handed : ℕ) (r : RecordData)
    → IsLegal policy history → next policy history (Step.Matching handed) ≡ Some r
    → settled_gate (record { policy = policy; records = history ++ r ∷ [] }) handed ≡ settled_gate (record { policy = policy; records = history }) handed
settles_on {policy} handed r legal left =
    ap (λ (records : List RecordData). the_gate policy records) (sym (settled_step handed r (legal_is_orderly legal) left))
  where
    the_gate : PolicyData → List RecordData → GateData
    the_gate p records = record { policy = p; records = records }
