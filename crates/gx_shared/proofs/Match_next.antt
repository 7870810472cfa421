-- Matching steps, one behind the other: none of their records is a pass's own.
use Rattle.std.proofs.{Common.{◌≡◌, ℕ, ◌+◌, ◌<◌, map, List, [], ◌∷◌, ◌++◌, length, Some, refl, sym, ◌∙◌, ap, subst, arith, append-nil, append_assoc, length-append}, lemmas.List.{map-append, Elements.filter-append}}
use Rattle.std.specs.Prelude.{◌==◌}
use mathlib.Core.List.{IsPrefix}
use Rattle.gx_history.specs.declared.record.RecordData.{RecordData}
use Rattle.gx_access_gate.specs.{declared.outcome.Outcome.Outcome, Gates.{GateData, matched_by}, Matches.with_match}
use Rattle.gx_pass.specs.{declared.view.LineView.LineView, Rules.IsMet, Views.{line_in, of_line}}
use Rattle.gx_pass.proofs.{Lists_prefix.{prefix_trans, prefix_length}, Lines_owner.of_line_other}
use Rattle.gx_door.specs.Matching.{AddsMatchingSteps}

pub none_made : (moment : ℕ) (records : List RecordData) → AddsMatchingSteps moment 0 records records
none_made moment records = record { outcomes = []; behind = sym (append-nil records); count = refl }

-- one more step
pub one_more : (moment made : ℕ) (o : Outcome) (first : List RecordData) (was is : GateData) → AddsMatchingSteps moment made first was.records → is ≡ with_match was moment (Some o)
    → AddsMatchingSteps moment (made + 1) first is.records
one_more moment made o first was is so_far more = record {
  outcomes = so_far.outcomes ++ o ∷ [];
  behind = ap (λ (g : GateData). g.records) more
      ∙ (ap (λ (rs : List RecordData). rs ++ matched_by moment o ∷ []) so_far.behind
      ∙ (append_assoc first (map (matched_by moment) so_far.outcomes) (matched_by moment o ∷ [])
      ∙ ap (λ (rs : List RecordData). first ++ rs) (sym (map-append (matched_by moment) so_far.outcomes (o ∷ [])))));
  count = length-append so_far.outcomes (o ∷ []) ∙ ap (λ (n : ℕ). n + 1) so_far.count;
}

-- none more
pub no_more : (moment made : ℕ) (first : List RecordData) (was is : GateData) → AddsMatchingSteps moment made first was.records → is ≡ was → AddsMatchingSteps moment made first is.records
no_more moment made first was is so_far same = subst (λ (g : GateData). AddsMatchingSteps moment made first g.records) (sym same) so_far

-- they are of no line
of_no_line : (moment line : ℕ) → 0 < line → (outcomes : List Outcome) → of_line line (map (matched_by moment) outcomes) ≡ []
of_no_line moment line some [] = refl
of_no_line moment line some (o ∷ outcomes) =
    filter-append (λ (x : RecordData). line_in x == line) (matched_by moment o ∷ []) (map (matched_by moment) outcomes)
    ∙ ap (λ (rs : List RecordData). rs ++ of_line line (map (matched_by moment) outcomes)) (of_line_other line [] (matched_by moment o) (λ e. absurd (omega arith)))
    ∙ of_no_line moment line some outcomes

-- whoever had met the earlier records has met so much of the later ones, and none of these is his own
pub still_met : (moment made : ℕ) (h : LineView) {earlier later : List RecordData} → 0 < h.line → IsMet earlier h → AddsMatchingSteps moment made earlier later → IsMet later h
still_met moment made h {earlier} {later} some met added =
    let more = map (matched_by moment) added.outcomes in
    let begins : IsPrefix earlier later = (more, sym added.behind) in
    let longer = prefix_length earlier later begins in
    let told = met.told in
    record {
      front = prefix_trans h.front earlier later met.front begins;
      told = omega arith;
      mine = ap (λ (rs : List RecordData). of_line h.line rs) added.behind
          ∙ (filter-append (λ (x : RecordData). line_in x == h.line) earlier more
          ∙ (ap (λ (rs : List RecordData). of_line h.line earlier ++ rs) (of_no_line moment h.line some added.outcomes)
          ∙ (append-nil (of_line h.line earlier) ∙ met.mine)));
    }
