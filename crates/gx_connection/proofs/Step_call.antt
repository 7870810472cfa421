-- What a step, matching steps and a pull make of a gate.
use Rattle.std.specs.Prelude.{is_ok}
use Rattle.std.proofs.{lemmas.Bool.cases_lt, Common.{◌≡◌, ℕ, ◌<◌, ◌≤◌, ◌⊎◌, inl, inr, subst, Bool, true, false, Result, Ok, Err, is_some, List, [], ◌∷◌, ◌++◌, length, Option, None, Some, option_map, refl, sym, ap, ◌∙◌, append-nil}}
use Rattle.gx_history.specs.{Verdicts.{day_limit, next, verdict, IsLegal}, declared.record.{Asked.Asked, RecordData.RecordData, Step.Step, Verdict.Verdict}, Matching.matching, Settling.AddsMatches}
use Rattle.gx_access_gate.specs.{Steps.IsFull, declared.outcome.{StepFault.StepFault, LoginAnswer.LoginAnswer, Outcome.Outcome}, Gates.{GateData, left_by, matched_by}, Matches.{matching_of, next_match, with_match, settled_gate, IsSettling}, Logins.login_answered, Asking.gate_after_step}
use Rattle.gx_connection.specs.{Faults.{fault_of_step, HasRoomForRecord, IsToldFull}, Piping.{cause_of, Refused}, Steps.{login_asked_at, login_told}}
use Rattle.gx_devices.specs.Stopping.{AreFewer}
use Rattle.gx_units.specs.{Spelling.folded_user, declared.names.UserName.UserName}
use Rattle.gx_soup.specs.declared.packet.LoginRequest.{LoginRequest}
use Rattle.gx_laws.proofs.{Requests_judged.verdict_of_next, Runs_orderly.legal_is_orderly, Matches_end.{settled_adds, settled_ends, settled_idle}}
use Rattle.gx_access_gate.proofs.Step_call.{stepped_is}

-- what a login is told
pub told_is : (gate : GateData) (moment : ℕ) (login : LoginRequest) (after : GateData) (a : Asked) (o : Outcome) (user : UserName) (answer : LoginAnswer)
    → a ≡ login_asked_at gate moment login → after.policy ≡ gate.policy → next gate.policy gate.records (Step.Asked a) ≡ Some (left_by a o)
    → after.records ≡ gate.records ++ left_by a o ∷ [] → user ≡ folded_user login.user
    → answer ≡ login_answered after.policy after.records user login.wanted o.verdict → answer ≡ login_told gate moment login
unfolding login_told
told_is gate moment login after a o user answer asked p n r u e =
    let s : after ≡ gate_after_step gate a = stepped_is gate after a o p n r in
    let v : o.verdict ≡ verdict gate.policy gate.records a = verdict_of_next gate.policy gate.records a (left_by a o) n in
    e ∙ (ap (λ (x : GateData). login_answered x.policy x.records user login.wanted o.verdict) s
    ∙ (ap (λ (x : UserName). login_answered gate.policy (gate_after_step gate a).records x login.wanted o.verdict) u
    ∙ (ap (λ (x : Verdict). login_answered gate.policy (gate_after_step gate a).records (folded_user login.user) login.wanted x) v
    ∙ ap (λ (x : Asked). login_answered gate.policy (gate_after_step gate x).records (folded_user login.user) login.wanted (verdict gate.policy gate.records x)) asked)))

-- where no step more is to be made, all are
pub settled_here : (before now after : GateData) (moment : ℕ) (found : Option Outcome) → is_some found ≡ false → IsSettling before moment now
    → next_match now moment ≡ option_map (matched_by moment) found → after ≡ with_match now moment found → after ≡ settled_gate before moment
settled_here before now after moment None none s left e =
    e ∙ (sym (ap (λ (rs : List RecordData). record { policy = now.policy; records = rs }) (settled_idle now.policy now.records moment left)) ∙ s.goes_on)
settled_here before now after moment (Some o) none s left e = cc

-- want of memory is told only where the day has room, and a full day only where it has none
told_by : (gate after : GateData) (e : StepFault) → after ≡ gate → (e ≡ StepFault.OutOfMemory → day_limit ≤ length gate.records → ⊥) → (e ≡ StepFault.DayFull → day_limit ≤ length gate.records) → IsToldFull after e
told_by gate after StepFault.DayFull same room day = subst IsFull (sym same) (day refl)
told_by gate after StepFault.OutOfMemory same room day = subst HasRoomForRecord (sym same) (by (cases_lt (length gate.records) day_limit))
  where
    by : (length gate.records < day_limit) ⊎ (day_limit ≤ length gate.records) → HasRoomForRecord gate
    by (inl h) = h
    by (inr h) = absurd (room refl h)

pub told_full : {T : Type 0} (gate after : GateData) (sure : Bool) (r : Result T StepFault) (e : StepFault) → after ≡ gate → (sure ≡ true → is_ok r ≡ true)
    → (day_limit ≤ length gate.records → sure ≡ false → r ≡ Err StepFault.DayFull) → (e ≡ StepFault.DayFull → day_limit ≤ length gate.records) → r ≡ Err e → IsToldFull after e
told_full gate after sure r e same never full day is = told_by gate after e same (λ memory h. not_both memory h sure refl) day
  where
    not_both : e ≡ StepFault.OutOfMemory → day_limit ≤ length gate.records → (b : Bool) → sure ≡ b → ⊥
    not_both memory h true is_sure = let clash : false ≡ true = sym (ap is_ok is) ∙ never is_sure in cc
    not_both memory h false unsure = let clash = sym (full h unsure) ∙ is in cc

pub match_told_full : {T F : Type 0} (gate after : GateData) (found : Option F) (none : T) (r : Result T StepFault) (e : StepFault) → after ≡ gate → (found ≡ None → r ≡ Ok none)
    → (is_some found ≡ true → day_limit ≤ length gate.records → r ≡ Err StepFault.DayFull) → (e ≡ StepFault.DayFull → day_limit ≤ length gate.records) → r ≡ Err e → IsToldFull after e
match_told_full {T} {F} gate after found none r e same idle full day is = told_by gate after e same (λ memory h. not_both memory h found refl) day
  where
    not_both : e ≡ StepFault.OutOfMemory → day_limit ≤ length gate.records → (x : Option F) → found ≡ x → ⊥
    not_both memory h None idles = let clash = sym is ∙ idle idles in cc
    not_both memory h (Some x) waits = let clash = sym (full (ap is_some waits) h) ∙ is in cc

-- as a connection tells it
pub of_step : (gate after : GateData) (e : StepFault) → after ≡ gate → IsToldFull after e → Refused (cause_of (fault_of_step e)) gate.records
of_step gate after StepFault.OutOfMemory same h = subst HasRoomForRecord same h
of_step gate after StepFault.DayFull same h = subst IsFull same h

-- where an order waits, one record more is to be made
pub settling_left : (before now : GateData) (moment : ℕ) → IsSettling before moment now → IsLegal now.policy now.records → is_some (matching_of now) ≡ true → AreFewer now.records (settled_gate before moment).records
settling_left before now moment s legal waits =
    subst (λ (g : GateData). AreFewer now.records g.records) s.goes_on (by adds.more adds.goes_on)
  where
    adds : AddsMatches now.records (settled_gate now moment).records moment
    adds = settled_adds now.policy now.records moment

    by : (more : List RecordData) → (settled_gate now moment).records ≡ now.records ++ more → AreFewer now.records (settled_gate now moment).records
    by (r ∷ more) e = record { next = r; others = more; whole = e }
    by [] e =
        let none : matching_of now ≡ None =
        ap (matching now.policy) (sym (e ∙ append-nil now.records)) ∙ settled_ends moment (legal_is_orderly legal) in
        let clash : true ≡ false = sym waits ∙ ap is_some none in
        cc

-- so it was where a matching step was refused
pub refused_left : {T : Type 0} (before now after : GateData) (moment : ℕ) (none : T) (r : Result T StepFault) (e : StepFault) → IsSettling before moment now → IsLegal now.policy now.records
    → after ≡ now → (matching_of now ≡ None → r ≡ Ok none) → r ≡ Err e → AreFewer after.records (settled_gate before moment).records
refused_left before now after moment none r e s legal same idle is =
    subst (λ (g : GateData). AreFewer g.records (settled_gate before moment).records) (sym same) (settling_left before now moment s legal (by (matching_of now) refl))
  where
    by : (x : Option Verdict) → matching_of now ≡ x → is_some (matching_of now) ≡ true
    by None k = let clash : Err e ≡ Ok none = sym is ∙ idle k in cc
    by (Some v) k = ap is_some k

pub of_matching : (gate : GateData) (e : StepFault) → IsToldFull gate e → Refused (cause_of (fault_of_step e)) gate.records
of_matching gate e h = of_step gate gate e refl h
