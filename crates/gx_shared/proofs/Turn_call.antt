-- A step with matching steps behind it, and what a pass has met that was in for it.
use Rattle.std.proofs.Common.{◌≡◌, ℕ, ◌<◌, map, List, [], ◌∷◌, ◌++◌, length, Result, Ok, Err, IfOk, OnErr, refl, sym, ◌∙◌, ap, subst, arith, append-nil}
use mathlib.Core.List.{IsPrefix}
use Rattle.gx_policy.specs.declared.policy.PolicyData.{PolicyData}
use Rattle.gx_history.specs.declared.record.{Asked.Asked, RecordData.RecordData}
use Rattle.gx_access_gate.specs.{declared.outcome.StepFault.StepFault, Gates.{GateData, left_by, matched_by}, Steps.with_record}
use Rattle.gx_pass.specs.{declared.view.LineView.LineView, Rules.IsMet, Views.{line_view, mine}}
use Rattle.gx_pass.proofs.{Lists_prefix.{prefix_self, prefix_trans}, Lines_owner.of_line_own}
use Rattle.gx_door.specs.{declared.matched.Turned.Turned, Endings.{ended_by, sums_of}, Matching.{AddsMatchingSteps, MatchesBehind, Turns}}
use Rattle.gx_shared.proofs.Match_next.{still_met}

-- whoever holds all has met all
met_all : (line : ℕ) (all : List RecordData) → IsMet all (line_view line all (length all))
met_all line all = record { front = prefix_self all; told = omega arith; mine = refl }

-- matching steps behind all that had been met
pub matches : (moment made : ℕ) {earlier now : List RecordData} (h is : LineView) → is ≡ line_view h.line now (length now) → IsMet earlier h → AddsMatchingSteps moment made earlier now → MatchesBehind h is moment made
matches moment made {earlier} h is all met added =
    subst (λ (x : LineView). MatchesBehind h x moment made) (sym all) (record { earlier = earlier; begins = met.front; adds = added })

-- what was there stands at the beginning
pub turn_begins : (a : Asked) (found : Result Turned StepFault) (was is : GateData) → IfOk found (λ t. AddsMatchingSteps a.handed t.matched.made (with_record was a t.outcome) is.records) → OnErr found (is ≡ was)
    → IsPrefix was.records is.records
turn_begins a (Ok t) was is done refused =
    prefix_trans was.records (with_record was a t.outcome) is.records (left_by a t.outcome ∷ [], refl) (map (matched_by a.handed) done.outcomes, sym done.behind)
turn_begins a (Err e) was is done refused = ([], append-nil was.records ∙ ap (λ (g : GateData). g.records) (sym refused))

-- the request's record is one more of the pass's own, and none behind it is; and what it ended is told
pub turns : (policy : PolicyData) (found : Result Turned StepFault) {earlier : List RecordData} (now : List RecordData) (a : Asked) (h is : LineView) → is ≡ line_view h.line now (length now) → IsMet earlier h → a.line ≡ h.line → 0 < h.line
    → IfOk found (λ t. AddsMatchingSteps a.handed t.matched.made (earlier ++ left_by a t.outcome ∷ []) now)
    → IfOk found (λ t. t.ended ≡ sums_of (ended_by policy earlier (left_by a t.outcome)))
    → IfOk found (λ t. Turns policy h is (left_by a t.outcome) t.ended a.handed t.matched.made)
turns policy (Ok t) {earlier} now a h is all met own some done ends =
    let r = left_by a t.outcome in
    let middle = earlier ++ r ∷ [] in
    let behind = still_met a.handed t.matched.made (line_view h.line middle (length middle)) some (met_all h.line middle) done in
    let turned : Turns policy h (line_view h.line now (length now)) r t.ended a.handed t.matched.made =
    record {
      earlier = earlier;
      begins = met.front;
      adds = done;
      own = behind.mine ∙ (of_line_own h.line earlier r own ∙ ap (λ (xs : List RecordData). xs ++ r ∷ []) met.mine);
      ends = ends;
    } in
    subst (λ (x : LineView). Turns policy h x r t.ended a.handed t.matched.made) (sym all) turned
turns policy (Err e) now a h is all met own some done ends = tt
