-- What the record of a matching step may do, by its verdict: no day needs to be legal for that.
use Rattle.std.proofs.{Common.{◌≡◌, ℕ, ◌+◌, Bool, true, false, not, List, [], ◌∷◌, refl, ap, length, ◌∙◌}, Math.Path.subst, lemmas.Option.same_Some}
use Rattle.std.specs.Prelude.{Option, Some, None, option_map, ◌↔◌}
use Rattle.gx_policy.specs.declared.policy.PolicyData.{PolicyData}
use Rattle.gx_history.specs.{declared.{live_order.LiveOrder.LiveOrder, «record».{RecordData.RecordData, Step.Step, Verdict.Verdict}}, Live.waiting, Matching.{crosses, fill_with, first_outcome, is_immediate, matching, meets_none, outcome, unmatched_outcome}, MayMove.{MayMove, opposite}, Requests.{asked_of, is_judged}, Verdicts.{moment_of, next, step_verdict}, World.{World, move_by, world}}
use Rattle.gx_laws.proofs.Runs_legal.{step_left}

abbrev matched : ℕ → ℕ → ℕ → Verdict → RecordData
matched number moment handed v = record { number = number; moment = moment; step = Step.Matching handed; verdict = v }

-- the verdict of a matching step's record
pub verdict_of_match : (policy : PolicyData) (history : List RecordData) (handed : ℕ) (r : RecordData) → next policy history (Step.Matching handed) ≡ Some r → matching policy history ≡ Some r.verdict
unfolding next step_verdict
verdict_of_match policy history handed r e = at (matching policy history) e
  where
    at : (found : Option Verdict) → option_map (matched (length history + 1) (moment_of history (Step.Matching handed)) handed) found ≡ Some r → found ≡ Some r.verdict
    at None k = cc
    at (Some v) k = ap (λ (x : RecordData). Some x.verdict) (same_Some _ _ k)

-- the record of a matching step may do what this verdict says
abbrev pub MayMatch : PolicyData → World → RecordData → ℕ → Verdict → Type 0
MayMatch policy w r handed v = MayMove policy w r (move_by policy w r v (Step.Matching handed))

-- the first that waits may end or come to rest, where it meets nothing
unmatched_may : (policy : PolicyData) (w : World) (r : RecordData) (handed : ℕ) (first : LiveOrder) (others : List LiveOrder) → asked_of r.step ≡ None → w.waiting ≡ first ∷ others
    → meets_none first (opposite w first) ≡ true → MayMatch policy w r handed (unmatched_outcome first)
unmatched_may policy w r handed first others s e none = at (is_immediate first) refl
  where
    at : (b : Bool) → is_immediate first ≡ b → MayMatch policy w r handed (elim b [ true ↦ Verdict.Expired first.number | false ↦ Verdict.Rested first.number ])
    at true k = record { is_match = s; first = first; waiting = others; comes_first = e; has_number = refl; meets_nothing = none; is_to_end = k }
    at false k = record { is_match = s; first = first; waiting = others; comes_first = e; has_number = refl; meets_nothing = none; is_to_rest = k }

-- or trade with the best of the other side
outcome_may : (policy : PolicyData) (w : World) (r : RecordData) (handed : ℕ) (first : LiveOrder) (others against : List LiveOrder) → asked_of r.step ≡ None → w.waiting ≡ first ∷ others
    → opposite w first ≡ against → MayMatch policy w r handed (outcome first against)
outcome_may policy w r handed first others [] s e k = unmatched_may policy w r handed first others s e (ap (meets_none first) k)
outcome_may policy w r handed first others (best ∷ behind) s e k = at (crosses first best) refl
  where
    at : (b : Bool) → crosses first best ≡ b → MayMatch policy w r handed (elim b [ true ↦ Verdict.Filled (fill_with first best) | false ↦ unmatched_outcome first ])
    at true c = record { is_match = s; taker = first; waiting = others; maker = best; behind = behind; comes_first = e; is_best = k; cross = c; is_theirs = refl }
    at false c = unmatched_may policy w r handed first others s e (ap (meets_none first) k ∙ ap not c)

pub may_match : (policy : PolicyData) (history : List RecordData) (handed : ℕ) (r : RecordData) (v : Verdict) → next policy history (Step.Matching handed) ≡ Some r → r.verdict ≡ v
    → MayMatch policy (world policy history) r handed v
unfolding matching
may_match policy history handed r v left is = subst (MayMatch policy (world policy history) r handed) is (at (waiting policy history) refl (verdict_of_match policy history handed r left))
  where
    at : (found : List LiveOrder) → waiting policy history ≡ found → first_outcome policy history found ≡ Some r.verdict → MayMatch policy (world policy history) r handed r.verdict
    at [] e k = cc
    at (first ∷ others) e k =
        subst (MayMatch policy (world policy history) r handed) (same_Some _ _ k)
        (outcome_may policy (world policy history) r handed first others (opposite (world policy history) first) (ap asked_of (step_left policy history (Step.Matching handed) r left)) e refl)

-- so it judges no request
judges_none : (policy : PolicyData) (w : World) (r : RecordData) (handed : ℕ) (v : Verdict) → MayMatch policy w r handed v → is_judged v ≡ false
judges_none policy w r handed Verdict.Granted may = absurd may
judges_none policy w r handed (Verdict.Denied rule) may = absurd may
judges_none policy w r handed other may = refl

pub not_judged : (policy : PolicyData) (history : List RecordData) (handed : ℕ) (r : RecordData) → next policy history (Step.Matching handed) ≡ Some r → is_judged r.verdict ≡ false
not_judged policy history handed r left = judges_none policy (world policy history) r handed r.verdict (may_match policy history handed r r.verdict left refl)

-- no verdict exactly where nothing waits
pub idle_where_empty : (policy : PolicyData) (history : List RecordData) → matching policy history ≡ None ↔ waiting policy history ≡ []
unfolding matching
idle_where_empty policy history = at (waiting policy history)
  where
    at : (found : List LiveOrder) → first_outcome policy history found ≡ None ↔ found ≡ []
    at [] = (λ h. refl, λ h. refl)
    at (s ∷ found) = (λ h. cc, λ h. cc)
