-- What a step that was refused is not, and when it is told that the day is full.
use Rattle.std.proofs.Common.{◌≡◌, Bool, true, false, Result, Ok, Err, IfErr, OnErr, is_ok, refl, ap, subst}
use Rattle.gx_policy.specs.declared.policy.PolicyData.{PolicyData}
use Rattle.gx_history.specs.declared.record.Asked.{Asked}
use Rattle.gx_access_gate.specs.{declared.outcome.StepFault.StepFault, Gates.GateData, Steps.{IsFull, never_refuses}}
use Rattle.gx_door.specs.Acts.{IsToldFull, MayBeRefused, gate_at}

-- it is no granted Kill or Logout
pub is_no_granted_end : {T : Type 0} (gate : GateData) (a : Asked) (r : Result T StepFault) → (never_refuses gate a ≡ true → is_ok r ≡ true) → OnErr r (MayBeRefused gate a)
is_no_granted_end gate a (Ok x) sure = tt
is_no_granted_end gate a (Err e) sure = by (never_refuses gate a) sure
  where
    by : (b : Bool) → (b ≡ true → false ≡ true) → b ≡ false
    by false clash = refl
    by true clash = let c : false ≡ true = clash refl in cc

abbrev error_in : {T : Type 0} → Result T StepFault → StepFault
error_in (Ok x) = StepFault.OutOfMemory
error_in (Err e) = e

-- it is told so exactly where the day is full
pub is_told_full : {T : Type 0} (gate : GateData) (a : Asked) (r : Result T StepFault) → (never_refuses gate a ≡ true → is_ok r ≡ true) → (IsFull gate → never_refuses gate a ≡ false → r ≡ Err StepFault.DayFull)
    → IfErr r (λ e. e ≡ StepFault.DayFull → IsFull gate) → IfErr r (IsToldFull gate)
is_told_full gate a (Ok x) sure full day_full = tt
is_told_full {T} gate a (Err e) sure full day_full = (day_full, λ f. ap (λ (x : Result T StepFault). error_in x) (full f (is_no_granted_end {T = T} gate a (Err e) sure)))

-- so it stays of the gate's records under the policy's other name, and of the request's
pub stays_refused : {T : Type 0} (r : Result T StepFault) (gate : GateData) (policy : PolicyData) (a b : Asked) → gate.policy ≡ policy → a ≡ b → OnErr r (MayBeRefused gate a)
    → OnErr r (MayBeRefused (gate_at policy gate.records) b)
stays_refused r gate policy a b under is refused =
    subst (λ (p : PolicyData). OnErr r (MayBeRefused (gate_at p gate.records) b)) under
    (subst (λ (x : Asked). OnErr r (MayBeRefused gate x)) is refused)
