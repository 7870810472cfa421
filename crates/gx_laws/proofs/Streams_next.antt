-- What one more record adds to streams and runs.
use Rattle.std.proofs.{Common.{◌≡◌, List, [], ◌∷◌, ◌++◌, refl, sym}, Math.Path.subst, lemmas.List.Sums.fold_push}
use Rattle.std.specs.List.{AllByRecursion}
use Rattle.gx_units.specs.declared.names.UserName.{UserName}
use Rattle.gx_units.proofs.Lists_hold.{all_next, all_before}
use Rattle.gx_policy.specs.{declared.policy.PolicyData.PolicyData, Lists.each_with_earlier}
use Rattle.gx_history.specs.{declared.record.{RecordData.RecordData, Step.Step}, Streams.{stream, reports_of, copies, copies_of}, Verdicts.{run, after_step, Follows, IsLegal}}
use Rattle.gx_laws.proofs.Lists_next.{flat_map_next, each_after_next}

pub stream_none : (policy : PolicyData) (user : UserName) → stream policy [] user ≡ []
unfolding stream
stream_none policy user = refl

pub stream_next : (policy : PolicyData) (history : List RecordData) (r : RecordData) (user : UserName)
    → stream policy (history ++ r ∷ []) user ≡ stream policy history user ++ reports_of policy user (history, r)
unfolding stream
stream_next policy history r user = flat_map_next (reports_of policy user) history r

pub copies_none : (policy : PolicyData) (reader : UserName) → copies policy [] reader ≡ []
unfolding copies
copies_none policy reader = refl

pub copies_next : (policy : PolicyData) (history : List RecordData) (r : RecordData) (reader : UserName)
    → copies policy (history ++ r ∷ []) reader ≡ copies policy history reader ++ copies_of policy reader (history, r)
unfolding copies
copies_next policy history r reader = flat_map_next (copies_of policy reader) history r

pub run_none : (policy : PolicyData) → run policy [] ≡ []
unfolding run
run_none policy = refl

pub run_next : (policy : PolicyData) (taken : List Step) (step : Step) → run policy (taken ++ step ∷ []) ≡ after_step policy (run policy taken) step
unfolding run
run_next policy taken step = fold_push (after_step policy) [] taken step

pub legal_none : (policy : PolicyData) → IsLegal policy []
legal_none policy = record { follows = tt }

-- a legal history goes on by a record that follows
pub legal_next : {policy : PolicyData} {history : List RecordData} (r : RecordData) → IsLegal policy history → Follows policy (history, r) → IsLegal policy (history ++ r ∷ [])
legal_next {policy} {history} r legal follows =
    record { follows = subst (λ (steps : List (List RecordData × RecordData)). AllByRecursion (Follows policy) steps) (sym (each_after_next [] history r)) (all_next (Follows policy) (each_with_earlier history) (history, r) legal.follows follows) }

-- the last record of a legal history follows those before it
pub legal_before : {policy : PolicyData} (history : List RecordData) (r : RecordData) → IsLegal policy (history ++ r ∷ []) → IsLegal policy history × Follows policy (history, r)
legal_before {policy} history r legal =
    let parts : AllByRecursion (Follows policy) (each_with_earlier history) × Follows policy (history, r) =
    all_before (Follows policy) (each_with_earlier history) (history, r)
    (subst (λ (steps : List (List RecordData × RecordData)). AllByRecursion (Follows policy) steps) (each_after_next [] history r) legal.follows) in
    (record { follows = parts.0 }, parts.1)
