-- What a line of a script does.
use Rattle.std.proofs.{Common.{◌≡◌, ℕ, ◌+◌, ◌<◌, ◌≤◌, ◌⊎◌, inl, inr, Bool, true, false, not, leb, le-leb, cond, List, [], ◌∷◌, ◌++◌, length, take, Option, Some, None, Result, Ok, Err, refl, sym, ap, ◌∙◌, subst}, lemmas.Bool.{lt-leb, cases_lt}}
use Rattle.std.specs.Prelude.{is_ok, ◌&&◌}
use Rattle.gx_units.proofs.Lists_found.{all_taken}
use Rattle.gx_history.specs.{declared.{«record».{Asked.Asked, RecordData.RecordData, Step.Step, Verdict.Verdict}, report.Report.Report}, Verdicts.{next, step_verdict, verdict, day_limit}}
use Rattle.gx_access_gate.specs.{Gates.{GateData, left_by}, Steps.never_refuses, declared.outcome.{Outcome.Outcome, StepFault.StepFault}, Asking.gate_after_step}
use Rattle.gx_script_text.specs.Printing.{outcome_line, refused_line}
use Rattle.gx_devices.proofs.Run_stopped.{first_same}
use Rattle.gx_script_run.specs.{Leaving.IsHalf, Scripting.{Printed, step_of}}
use Rattle.gx_access_gate.proofs.Step_call.{stepped_is}

below : {T : Type 0} (limit n : ℕ) (r : Result T StepFault) (o : T) (e : StepFault) → (limit ≤ n → r ≡ Err e) → r ≡ Ok o → (n < limit) ⊎ (limit ≤ n) → n < limit
below limit n r o e full ok (inl h) = h
below limit n r o e full ok (inr h) = let clash : Err e ≡ Ok o = sym (full h) ∙ ok in cc

pub not_full : {T : Type 0} (limit n : ℕ) (r : Result T StepFault) (o : T) (e : StepFault) → (limit ≤ n → r ≡ Err e) → r ≡ Ok o → leb limit n ≡ false
not_full limit n r o e full ok = lt-leb limit n (below limit n r o e full ok (cases_lt n limit))

-- nor was it refused, be it one that a full day refuses or not
not_refused : {T : Type 0} (limit n : ℕ) (kept : Bool) (r : Result T StepFault) (o : T) (e : StepFault) → (limit ≤ n → kept ≡ false → r ≡ Err e) → r ≡ Ok o → (leb limit n && not kept) ≡ false
not_refused limit n true r o e full ok = elim (leb limit n) as (λ b. (b && false) ≡ false) [ true ↦ refl | false ↦ refl ]
not_refused limit n false r o e full ok = ap (λ b. b && true) (not_full limit n r o e (λ l. full l refl) ok)

-- a step that was refused is none that finds its places
pub refused : {T : Type 0} (gate : GateData) (a : Asked) (r : Result T StepFault) (e : StepFault) → (never_refuses gate a ≡ true → is_ok r ≡ true) → r ≡ Err e → day_limit ≤ length gate.records
    → step_of gate a ≡ record { gate = gate; text = refused_line }
unfolding step_of
refused gate a r e sure err full =
    ap (λ b. cond b (record { gate = gate; text = refused_line }) (record { gate = gate_after_step gate a; text = outcome_line (length gate.records + 1) (verdict gate.policy gate.records a) }))
    (ap (λ b. b && not (never_refuses gate a)) (le-leb day_limit (length gate.records) full) ∙ by (never_refuses gate a) refl)
  where
    by : (b : Bool) → never_refuses gate a ≡ b → (true && not (never_refuses gate a)) ≡ true
    by false is = ap not is
    by true is = let clash : false ≡ true = sym (ap is_ok err) ∙ sure is in cc

number_in : Option RecordData → ℕ
number_in None = 0
number_in (Some r) = r.number

number_is : (gate : GateData) (a : Asked) (o : Outcome) → next gate.policy gate.records (Step.Asked a) ≡ Some (left_by a o) → o.number ≡ length gate.records + 1
unfolding next step_verdict number_in
number_is gate a o n = sym (ap number_in n)

-- a step that was made
pub made : {T : Type 0} (gate after : GateData) (a : Asked) (o : Outcome) (r : Result T StepFault) (x : T) (e : StepFault) (text : List ℕ)
    → (day_limit ≤ length gate.records → never_refuses gate a ≡ false → r ≡ Err e) → r ≡ Ok x → after.policy ≡ gate.policy
    → next gate.policy gate.records (Step.Asked a) ≡ Some (left_by a o) → after.records ≡ gate.records ++ left_by a o ∷ []
    → o.verdict ≡ verdict gate.policy gate.records a → text ≡ outcome_line o.number o.verdict
    → step_of gate a ≡ record { gate = after; text = text }
unfolding step_of
made gate after a o r x e text full ok p n s v t =
    let made_of : ℕ → Verdict → Printed = λ number verdict_told. record { gate = gate_after_step gate a; text = outcome_line number verdict_told } in
    ap (λ b. cond b (record { gate = gate; text = refused_line }) (made_of (length gate.records + 1) (verdict gate.policy gate.records a)))
    (not_refused day_limit (length gate.records) (never_refuses gate a) r x e full ok)
    ∙ (ap (λ k. made_of k (verdict gate.policy gate.records a)) (sym (number_is gate a o n))
    ∙ (ap (made_of o.number) (sym v)
    ∙ (ap (λ g. record { gate = g; text = outcome_line o.number o.verdict }) (sym (stepped_is gate after a o p n s))
    ∙ ap (λ u. record { gate = after; text = u }) (sym t))))

-- a step whose line was not told
pub step_half : (gate after : GateData) (a : Asked) (text : List ℕ) (r : RecordData) → step_of gate a ≡ record { gate = after; text = text }
    → after.policy ≡ gate.policy → after.records ≡ gate.records ++ r ∷ [] → IsHalf gate (Some (step_of gate a)) after
step_half gate after a text r made policy_is records_are = inr (record {
  printed = step_of gate a;
  is_its = refl;
  policy_kept = policy_is;
  made = record { others = r ∷ []; whole = records_are };
  left = first_same after.records (step_of gate a).gate.records (ap (λ (p : Printed). p.gate.records) (sym made));
})

-- all reports came
pub all_came : (owed reports : List Report) (most : ℕ) → reports ≡ take most owed → length reports < most → reports ≡ owed
all_came owed reports most e few =
    let IsFew : List Report → Type 0 = λ xs. length xs < most in
    e ∙ all_taken owed most (subst IsFew e few)
