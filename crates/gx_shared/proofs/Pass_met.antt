-- What a pass that was taken in has met, once it is let go behind a step.
use Rattle.std.proofs.Common.{◌≡◌, ℕ, ◌<◌, List, [], ◌∷◌, ◌++◌, length, Option, Some, None, Result, Ok, Err, IfOk, OnErr, refl, sym, ◌∙◌, ap, subst, arith, append-nil}
use mathlib.Core.List.{IsPrefix}
use Rattle.gx_policy.specs.declared.policy.PolicyData.{PolicyData}
use Rattle.gx_history.specs.{declared.record.{Asked.Asked, RecordData.RecordData}, Verdicts.IsLegal}
use Rattle.gx_access_gate.specs.{declared.outcome.{Outcome.Outcome, StepFault.StepFault}, Gates.{GateData, left_by, matched_by}, Matches.with_match, Steps.with_record}
use Rattle.gx_pass.specs.{declared.view.LineView.LineView, Rules.IsMet, Views.{line_view, mine}}
use Rattle.gx_pass.proofs.{Lists_prefix.{prefix_trans, prefix_length}, Lines_owner.{of_line_other, of_line_own}}
use Rattle.gx_door.specs.Acts.{AddsOwn, IsLater}

-- the pass holds all records of the gate
abbrev HoldsAll : (h is : LineView) → List RecordData → Type 0
HoldsAll h is now = is ≡ line_view h.line now (length now)

-- the records that had been met still stand at the beginning
pub goes_later : {policy : PolicyData} {earlier now : List RecordData} (h is : LineView) → HoldsAll h is now → IsMet earlier h → IsPrefix earlier now → IsLegal policy now → IsLater policy h is
goes_later {policy} {earlier} {now} h is all met begins legal =
    let told = met.told in
    let longer = prefix_length earlier now begins in
    subst (λ (x : LineView). IsLater policy h x) (sym all)
    (record { line = refl; legal = legal; front = prefix_trans h.front earlier now met.front begins; told = omega arith })

-- a step puts one record last, or none
pub step_begins : (a : Asked) (found : Result Outcome StepFault) (was is : GateData) → IfOk found (λ o. is.records ≡ with_record was a o) → OnErr found (is ≡ was) → IsPrefix was.records is.records
step_begins a (Ok o) was is done refused = (left_by a o ∷ [], sym done)
step_begins a (Err e) was is done refused = ([], append-nil was.records ∙ ap (λ (g : GateData). g.records) (sym refused))

-- so does a matching step
pub match_begins : (handed : ℕ) (found : Result (Option Outcome) StepFault) (was is : GateData) → IfOk found (λ f. is ≡ with_match was handed f) → OnErr found (is ≡ was) → IsPrefix was.records is.records
match_begins handed (Ok None) was is done refused = ([], append-nil was.records ∙ ap (λ (g : GateData). g.records) (sym done))
match_begins handed (Ok (Some o)) was is done refused = (matched_by handed o ∷ [], ap (λ (g : GateData). g.records) (sym done))
match_begins handed (Err e) was is done refused = ([], append-nil was.records ∙ ap (λ (g : GateData). g.records) (sym refused))

-- a record of the pass's line is one more of its own
pub adds_own : (found : Result Outcome StepFault) {earlier : List RecordData} (now : List RecordData) (a : Asked) (h is : LineView) → HoldsAll h is now → IsMet earlier h → a.line ≡ h.line → IfOk found (λ o. now ≡ earlier ++ left_by a o ∷ [])
    → IfOk found (λ o. AddsOwn h is (left_by a o))
adds_own (Ok o) {earlier} now a h is all met own done =
    let r = left_by a o in
    let adds : AddsOwn h (line_view h.line (earlier ++ r ∷ []) (length (earlier ++ r ∷ []))) r =
    record {
      last = record { earlier = earlier; begins = met.front; front = refl };
      own = of_line_own h.line earlier r own ∙ ap (λ (xs : List RecordData). xs ++ r ∷ []) met.mine;
    } in
    subst (λ (x : LineView). AddsOwn h x r) (sym (all ∙ ap (λ (xs : List RecordData). line_view h.line xs (length xs)) done)) adds
adds_own (Err e) now a h is all met own done = tt

-- a pass that holds what it had met with its own records holds the same ones as its own
pub holds_own : {now : List RecordData} (h is : LineView) → HoldsAll h is now → IsMet now h → mine is ≡ mine h
holds_own h is all met = ap mine all ∙ met.mine

-- nothing was added
own_stays : (was now : GateData) (h is : LineView) → HoldsAll h is now.records → IsMet was.records h → now ≡ was → mine is ≡ mine h
own_stays was now h is all met same = ap mine all ∙ ap (λ (g : GateData). mine (line_view h.line g.records 0)) same ∙ met.mine

-- a matching step's record is nobody's own
pub match_is_nobodys : (handed : ℕ) (found : Result (Option Outcome) StepFault) (was now : GateData) (h is : LineView) → HoldsAll h is now.records → IsMet was.records h → 0 < h.line
    → IfOk found (λ f. now ≡ with_match was handed f) → OnErr found (now ≡ was) → mine is ≡ mine h
match_is_nobodys handed (Ok None) was now h is all met some done refused = own_stays was now h is all met done
match_is_nobodys handed (Ok (Some o)) was now h is all met some done refused =
    ap mine all
    ∙ ap (λ (g : GateData). mine (line_view h.line g.records 0)) done
    ∙ of_line_other h.line was.records (matched_by handed o) (λ e. absurd (omega arith))
    ∙ met.mine
match_is_nobodys handed (Err e) was now h is all met some done refused = own_stays was now h is all met refused
