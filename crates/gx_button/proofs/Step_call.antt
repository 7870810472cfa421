-- What a door says of a step, as one word.
use Rattle.std.proofs.Common.{◌≡◌, ℕ, arith, Ok, Err, subst}
use Rattle.std.specs.Prelude.{Result, IfErr, IfOk, OnErr}
use Rattle.gx_policy.specs.declared.policy.PolicyData.{PolicyData}
use Rattle.gx_history.specs.declared.record.{Asked.Asked, Request.Request}
use Rattle.gx_access_gate.specs.{declared.outcome.{Outcome.Outcome, StepFault.StepFault}, Gates.{GateData, left_by}}
use Rattle.gx_pass.specs.{declared.view.LineView.LineView, Views.mine}
use Rattle.gx_door.specs.{Acts.{asked_on, gate_met, AddsOwn, IsToldFull, MayBeRefused}, Matching.{EndsSo, Turns}, declared.matched.{MatchEnd.MatchEnd, Turned.Turned}}
use Rattle.gx_http.specs.declared.credentials.Credentials.{Credentials}
use Rattle.gx_button.specs.{Steps.{AsksAndLeaves, KillsOn, StepsOn}, declared.steps.Decided.Decided}

pub steps_on : (policy : PolicyData) (was is : LineView) (asked : Asked) (r : Result Outcome StepFault) → IfOk r (λ o. AddsOwn was is (left_by asked o)) → OnErr r (mine is ≡ mine was)
    → OnErr r (MayBeRefused (gate_met policy is) asked) → IfErr r (IsToldFull (gate_met policy is)) → StepsOn policy was is asked r
steps_on policy was is asked (Ok outcome) done same refused full = done
steps_on policy was is asked (Err fault) done same refused full = (same, refused, full)

-- of no matching steps none were made
none_made : (end : MatchEnd) (gate : GateData) (made : ℕ) → EndsSo end gate made 0 → made ≡ 0
none_made MatchEnd.Idle gate made h = omega (arith, h.0)
none_made MatchEnd.Enough gate made h = h
none_made (MatchEnd.Refused fault) gate made h = omega (arith, h.0)

abbrev decided_of : Turned → Decided
decided_of t = record { outcome = t.outcome; ended = t.ended }

-- the kill that a door has turned, with no matching step behind it
pub kills_on : (policy : PolicyData) (was is : LineView) (asked : Asked) (t : Turned) → Turns policy was is (left_by asked t.outcome) t.ended asked.handed t.matched.made
    → EndsSo t.matched.end (gate_met policy is) t.matched.made 0 → KillsOn policy was is asked (Ok (decided_of t))
kills_on policy was is asked t turns ends =
    subst (λ (n : ℕ). Turns policy was is (left_by asked t.outcome) t.ended asked.handed n) (none_made t.matched.end (gate_met policy is) t.matched.made ends) turns

-- a command, and the logout behind it, which stands on the same line
pub asks_and_leaves : (policy : PolicyData) (was between is : LineView) (who : Credentials) (request : Request) (kill_moment logout_moment : ℕ) (kill : Result Decided StepFault) (logout : Result Outcome StepFault)
    → between.line ≡ was.line → KillsOn policy was between (asked_on was.line who.user request kill_moment) kill
    → StepsOn policy between is (asked_on between.line who.user Request.Logout logout_moment) logout → AsksAndLeaves policy was is who request kill logout
asks_and_leaves policy was between is who request kill_moment logout_moment kill logout line asks leaves = record {
  kill_moment = kill_moment;
  logout_moment = logout_moment;
  between = between;
  asks = asks;
  leaves = subst (λ (on : ℕ). StepsOn policy between is (asked_on on who.user Request.Logout logout_moment) logout) line leaves;
}
