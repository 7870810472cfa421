-- Runs are legal days, and legal days are runs.
use Rattle.std.proofs.{Common.{◌≡◌, ℕ, ◌+◌, ◌≤◌, length, List, [], ◌∷◌, ◌++◌, refl, ◌∙◌, ap, sym, map, arith, length-append, inl, zero-add}, Math.Path.subst, lemmas.{List.map-append, Option.same_Some}}
use Rattle.std.specs.{Prelude.{Option, Some, None, option_map, fold, ◌↔◌}, Option.option_map_or}
use Rattle.gx_policy.specs.declared.policy.PolicyData.{PolicyData}
use Rattle.gx_history.specs.{declared.{live_order.LiveOrder.LiveOrder, «record».{RecordData.RecordData, Step.Step, Verdict.Verdict}}, Live.waiting, Matching.{matching, first_outcome}, Verdicts.{next, step_verdict, moment_of, after_step, run, day_limit, Follows, IsLegal}}
use Rattle.gx_laws.proofs.{Requests_judged.legal_keeps, Streams_next.{legal_none, legal_next, run_none, run_next}, Orders_numbered.number_left}

abbrev made : ℕ → ℕ → Step → Verdict → RecordData
made n moment step v = record { number = n; moment = moment; step = step; verdict = v }

step_of : (n moment : ℕ) (step : Step) (v : Option Verdict) (r : RecordData) → option_map (λ (x : Verdict). made n moment step x) v ≡ Some r → r.step ≡ step
step_of n moment step None r h = cc
step_of n moment step (Some x) r h = ap (λ (y : RecordData). y.step) (sym (same_Some _ _ h))

moment_of_made : (n moment : ℕ) (step : Step) (v : Option Verdict) (r : RecordData) → option_map (λ (x : Verdict). made n moment step x) v ≡ Some r → r.moment ≡ moment
moment_of_made n moment step None r h = cc
moment_of_made n moment step (Some x) r h = ap (λ (y : RecordData). y.moment) (sym (same_Some _ _ h))

-- the record holds the step that left it
pub step_left : (policy : PolicyData) (history : List RecordData) (step : Step) (r : RecordData) → next policy history step ≡ Some r → r.step ≡ step
unfolding next
step_left policy history step r e = step_of (length history + 1) (moment_of history step) step (step_verdict policy history step) r e

pub moment_left : (policy : PolicyData) (history : List RecordData) (step : Step) (r : RecordData) → next policy history step ≡ Some r → r.moment ≡ moment_of history step
unfolding next
moment_left policy history step r e = moment_of_made (length history + 1) (moment_of history step) step (step_verdict policy history step) r e

goes_on : (policy : PolicyData) (history : List RecordData) (step : Step) (r : RecordData) → next policy history step ≡ Some r → length history + 1 ≤ day_limit → Follows policy (history, r)
goes_on policy history step r e room =
    let number : r.number ≡ length history + 1 = number_left policy history step r e in
    let fits : r.number ≤ day_limit = subst (λ (n : ℕ). n ≤ day_limit) (sym number) room in
    record { is_next = ap (next policy history) (step_left policy history step r e) ∙ e; fits_day = record { fits = inl fits } }

all_legal : {policy : PolicyData} (limit : ℕ) → limit ≡ day_limit → (history : List RecordData) (taken : List Step) → IsLegal policy history → length history + length taken ≤ limit
    → IsLegal policy (fold (after_step policy) history taken)
all_legal limit same history [] legal room = legal
all_legal {policy} limit same history (step ∷ taken) legal room =
    all_legal limit same (after_step policy history step) taken (at (next policy history step) refl).0 (at (next policy history step) refl).1
  where
    at : (found : Option RecordData) → next policy history step ≡ found
        → IsLegal policy (option_map_or (λ (r : RecordData). history ++ r ∷ []) found history) × (length (option_map_or (λ (r : RecordData). history ++ r ∷ []) found history) + length taken ≤ limit)
    at None e = (legal, omega arith)
    at (Some r) e =
        let size : length (history ++ r ∷ []) ≡ length history + 1 = length-append history (r ∷ []) in
        let within : length history + 1 ≤ limit = omega arith in
        (legal_next r legal (goes_on policy history step r e (subst (λ (n : ℕ). length history + 1 ≤ n) same within)), omega arith)

-- the records of at most so many steps are those of a day
pub run_is_legal : (policy : PolicyData) (taken : List Step) → length taken ≤ day_limit → IsLegal policy (run policy taken)
unfolding run
run_is_legal policy taken room = all_legal day_limit refl [] taken (legal_none policy) (subst (λ (n : ℕ). n ≤ day_limit) (sym (zero-add (length taken))) room)

-- the records of a day are those that their own steps leave
pub legal_is_run : (policy : PolicyData) (history : List RecordData) → IsLegal policy history → run policy (map (λ (r : RecordData). r.step) history) ≡ history
legal_is_run policy history legal =
    legal_keeps (λ (h : List RecordData). run policy (map (λ (r : RecordData). r.step) h) ≡ h) (run_none policy)
    (λ h r same follows.
    ap (run policy) (map-append (λ (x : RecordData). x.step) h (r ∷ []))
    ∙ run_next policy (map (λ (x : RecordData). x.step) h) r.step
    ∙ ap (λ (before : List RecordData). after_step policy before r.step) same
    ∙ ap (λ (found : Option RecordData). option_map_or (λ (x : RecordData). h ++ x ∷ []) found h) follows.is_next) legal

-- no record of a matching step, where no order waits
pub idle_where_none_waits : (policy : PolicyData) (history : List RecordData) (handed : ℕ)
    → next policy history (Step.Matching handed) ≡ None ↔ waiting policy history ≡ []
unfolding next step_verdict matching
idle_where_none_waits policy history handed = at (waiting policy history)
  where
    at : (found : List LiveOrder)
        → option_map (λ (v : Verdict). made (length history + 1) (moment_of history (Step.Matching handed)) (Step.Matching handed) v) (first_outcome policy history found) ≡ None ↔ found ≡ []
    at [] = (λ h. refl, λ h. refl)
    at (s ∷ found) = (λ h. cc, λ h. cc)
