-- What a step and a pull make of a gate.
use Rattle.std.proofs.Common.{◌≡◌, List, [], ◌∷◌, ◌++◌, Option, Some, refl, sym, ap, ◌∙◌}
use Rattle.std.specs.Option.{option_map_or}
use Rattle.gx_history.specs.{declared.record.{Asked.Asked, RecordData.RecordData, Step.Step}, Verdicts.{next, after_step}}
use Rattle.gx_policy.specs.declared.policy.PolicyData.{PolicyData}
use Rattle.gx_access_gate.specs.{Asking.gate_after_step, Gates.{GateData, left_by}, declared.outcome.Outcome.Outcome}

same_gate : (p q : PolicyData) (r s : List RecordData) (after : GateData) → after ≡ record { policy = p; records = r } → p ≡ q → r ≡ s → after ≡ record { policy = q; records = s }
same_gate p q r s after h e f =
    let policied : PolicyData → GateData = λ x. record { policy = x; records = r } in
    let recorded : List RecordData → GateData = λ x. record { policy = q; records = x } in
    h ∙ (ap policied e ∙ ap recorded f)

-- a step's gate
pub stepped_is : (gate after : GateData) (a : Asked) (o : Outcome) → after.policy ≡ gate.policy → next gate.policy gate.records (Step.Asked a) ≡ Some (left_by a o)
    → after.records ≡ gate.records ++ left_by a o ∷ [] → after ≡ gate_after_step gate a
stepped_is gate after a o p n r =
    let e : after.records ≡ after_step gate.policy gate.records (Step.Asked a) =
    r ∙ sym (ap (λ (x : Option RecordData). option_map_or (λ (y : RecordData). gate.records ++ y ∷ []) x gate.records) n) in
    same_gate after.policy gate.policy after.records (after_step gate.policy gate.records (Step.Asked a)) after refl p e
