-- What holds in the history of a legal day.
use Rattle.std.proofs.{Common.{◌≡◌, ℕ, ◌+◌, List, [], ◌∷◌, ◌++◌, ◌∙◌, ap, sym, length, sum_by}, lemmas.List.Sums.sum_by-cons}
use Rattle.std.specs.Prelude.{Option, Some, None, option_map}
use Rattle.gx_history.specs.{declared.«record».{RecordData.RecordData, Step.Step, Verdict.Verdict}, Orders.Order, Executions.{Execution, executed_shares, done}, Verdicts.{Follows, IsLegal, moment_of, step_verdict, next}}
use Rattle.gx_policy.specs.declared.policy.PolicyData.{PolicyData}
use Rattle.gx_laws.proofs.Streams_next.{legal_before}

-- the executed shares of a replacement, and then those of the order that it replaced
pub done_of_replacement : (made : List Execution) (o p : Order) → o.replaced ≡ p.number ∷ p.replaced → done made o ≡ executed_shares made o.number + done made p
unfolding done
done_of_replacement made o p e =
    sum_by-cons (executed_shares made) o.number o.replaced ∙ ap (λ ns. executed_shares made o.number + sum_by (executed_shares made) ns) e

abbrev made_of : ℕ → ℕ → Step → Verdict → RecordData
made_of n moment step v = record { number = n; moment = moment; step = step; verdict = v }

pub some_number : (n : ℕ) (moment : ℕ) (step : Step) (v : Option Verdict) (r : RecordData)
    → option_map (λ (x : Verdict). made_of n moment step x) v ≡ Some r → r.number ≡ n
some_number n moment step None r h = cc
some_number n moment step (Some x) r h = ap (λ (x : RecordData). x.number) (sym (some_is (made_of n moment step x) r h))
  where
    some_is : (a b : RecordData) → Some a ≡ Some b → a ≡ b
    some_is a b e = cc

-- the last record has the number of its place
pub numbers_are_places : (policy : PolicyData) (history : List RecordData) (r : RecordData) → IsLegal policy (history ++ r ∷ []) → r.number ≡ length history + 1
unfolding next
numbers_are_places policy history r legal =
    let parts : IsLegal policy history × Follows policy (history, r) = legal_before history r legal in
    some_number (length history + 1) (moment_of history r.step) r.step (step_verdict policy history r.step) r parts.1.is_next
