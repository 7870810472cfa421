-- In a full day no record follows but a granted Kill or Logout.
use Rattle.std.proofs.Common.{◌≡◌, ℕ, ◌≤◌, Bool, true, false, List, length, refl, ap, sym, ◌∙◌, subst, arith, inl, inr, ◌⊎◌}
use Rattle.std.specs.Prelude.{Some}
use Rattle.gx_desk.specs.declared.Action.{Action}
use Rattle.gx_policy.specs.declared.policy.PolicyData.{PolicyData}
use Rattle.gx_history.specs.{declared.«record».{Asked.Asked, RecordData.RecordData, Request.Request, Step.Step, Verdict.Verdict}, Verdicts.{day_limit, next, Follows, IsGrantedKillOrLogout, IsKillOrLogout}, Reserved.{is_never_refused, is_kill_or_logout}}
use Rattle.gx_laws.proofs.{Requests_judged.verdict_of_next, Orders_numbered.next_number}
use Rattle.gx_access_gate.specs.{Gates.GateData, Steps.never_refuses}
use Rattle.gx_audit.specs.Auditing.{NoneFollows}

kill_is : (action : Action) → elim action as (λ x. Type 0) [ Action.Kill account ↦ Unit {0} | _ ↦ ⊥ ] → elim action as (λ x. Bool) [ Action.Kill account ↦ true | _ ↦ false ] ≡ true
kill_is (Action.Kill account) is = refl
kill_is (Action.Lift account) is = absurd is
kill_is (Action.SetLimit rule limit) is = absurd is
kill_is (Action.Restrict rule stock) is = absurd is
kill_is (Action.Unrestrict rule stock) is = absurd is
kill_is (Action.Grant reader account) is = absurd is
kill_is (Action.Revoke reader account) is = absurd is
kill_is Action.CloseDay is = absurd is

kill_or_logout : (q : Request) → IsKillOrLogout q → is_kill_or_logout q ≡ true
kill_or_logout Request.Logout is = refl
kill_or_logout (Request.Command c) is = kill_is c.action is
kill_or_logout (Request.Login m) is = absurd is
kill_or_logout (Request.Unreadable m) is = absurd is
kill_or_logout (Request.Enter m) is = absurd is
kill_or_logout (Request.Replace m) is = absurd is
kill_or_logout (Request.Cancel m) is = absurd is

-- a granted Kill or Logout has its places
kept : (v : Verdict) (a : Asked) → IsGrantedKillOrLogout v (Step.Asked a) → is_never_refused a.request v ≡ true
kept Verdict.Granted a is = kill_or_logout a.request is
kept (Verdict.Denied rule) a is = absurd is
kept (Verdict.Filled f) a is = absurd is
kept (Verdict.Rested number) a is = absurd is
kept (Verdict.Expired number) a is = absurd is

no_match : (v : Verdict) (handed : ℕ) → IsGrantedKillOrLogout v (Step.Matching handed) → ⊥
no_match Verdict.Granted handed is = is
no_match (Verdict.Denied rule) handed is = is
no_match (Verdict.Filled f) handed is = is
no_match (Verdict.Rested number) handed is = is
no_match (Verdict.Expired number) handed is = is

-- in a full day a record that follows is a granted Kill or Logout
past : {policy : PolicyData} {before : List RecordData} (r : RecordData) → day_limit ≤ length before → Follows policy (before, r) → IsGrantedKillOrLogout r.verdict r.step
past r full follows = by follows.fits_day.fits
  where
    by : (r.number ≤ day_limit) ⊎ IsGrantedKillOrLogout r.verdict r.step → IsGrantedKillOrLogout r.verdict r.step
    by (inl within) = absurd (omega (arith, within, full, next_number r follows))
    by (inr granted) = granted

-- a request leaves none there, unless it has its places
pub none_asked : (gate : GateData) (a : Asked) → day_limit ≤ length gate.records → never_refuses gate a ≡ false → NoneFollows gate.policy gate.records (Step.Asked a)
none_asked gate a full none r is follows =
    let left : next gate.policy gate.records (Step.Asked a) ≡ Some r = subst (λ (s : Step). next gate.policy gate.records s ≡ Some r) is follows.is_next in
    let sure : is_never_refused a.request r.verdict ≡ true =
    kept r.verdict a (subst (λ (s : Step). IsGrantedKillOrLogout r.verdict s) is (past r full follows)) in
    let clash : false ≡ true = sym none ∙ ap (is_never_refused a.request) (sym (verdict_of_next gate.policy gate.records a r left)) ∙ sure in
    cc

-- a matching step leaves none there
pub none_matched : (gate : GateData) (handed : ℕ) → day_limit ≤ length gate.records → NoneFollows gate.policy gate.records (Step.Matching handed)
none_matched gate handed full r is follows =
    no_match r.verdict handed (subst (λ (s : Step). IsGrantedKillOrLogout r.verdict s) is (past r full follows))
