-- What one more record makes of the day under the other policy, and of its verdict_changes.
use Rattle.std.proofs.{Common.{◌≡◌, ℕ, ◌≤◌, Bool, true, false, List, [], ◌∷◌, ◌++◌, length, length-append, refl, ap, sym, ◌∙◌, subst, arith}, lemmas.List.{Elements.filter_map-append, Sums.fold-append}}
use Rattle.std.specs.{Prelude.{Option, Some, None, filter_map, fold, option_to_list}, Option.option_map_or}
use Rattle.gx_units.proofs.Lists_found.{one_found}
use Rattle.gx_policy.specs.{declared.policy.PolicyData.PolicyData, Lists.each_with_earlier}
use Rattle.gx_history.specs.{declared.record.{RecordData.RecordData, Step.Step}, Settling.settled_records, Verdicts.{after_step, day_limit, next}}
use Rattle.gx_laws.proofs.{Lists_next.each_after_next, Matches_end.{settled_adds, settled_idle}}
use Rattle.gx_access_gate.specs.{Gates.GateData, Matches.settled_gate, Steps.IsFull}
use Rattle.gx_whatif.specs.{declared.change.VerdictChange.VerdictChange, Redone.{Redone, redone_next, settled_where, redone_under, nothing_redone}, Differing.{change_of, verdict_changes}}

-- the day goes on by the step of the record
pub under_next : (old new : PolicyData) (records : List RecordData) (r : RecordData) → redone_under old new (records ++ r ∷ []) ≡ redone_next old new (redone_under old new records) (records, r)
unfolding redone_under
under_next old new records r =
    ap (fold (redone_next old new) nothing_redone) (each_after_next [] records r)
    ∙ fold-append (redone_next old new) nothing_redone (each_with_earlier records) ((records, r) ∷ [])

-- and the change of the record stands last, if it is one
pub changes_next : (old new : PolicyData) (records : List RecordData) (r : RecordData) → verdict_changes old new (records ++ r ∷ []) ≡ verdict_changes old new records ++ option_to_list (change_of old new records r)
changes_next old new records r =
    ap (filter_map at) (each_after_next [] records r)
    ∙ filter_map-append at (each_with_earlier records) ((records, r) ∷ [])
    ∙ ap (λ (more : List VerdictChange). filter_map at (each_with_earlier records) ++ more) (one_found (change_of old new records r))
  where
    at : (List RecordData × RecordData) → Option VerdictChange
    at entry = change_of old new entry.0 entry.1

longer : {X : Type 0} (n : ℕ) (before after more : List X) → after ≡ before ++ more → n ≤ length before → n ≤ length after
longer n before after more is h = omega (arith, ap length is, length-append before more, h)

-- settling takes away no record
pub settled_keeps : (policy : PolicyData) (records : List RecordData) (moment n : ℕ) → n ≤ length records → n ≤ length (settled_records policy records moment)
settled_keeps policy records moment n h = longer n records (settled_records policy records moment) (settled_adds policy records moment).more (settled_adds policy records moment).goes_on h

settled_where_keeps : (at_rest : Bool) (policy : PolicyData) (records : List RecordData) (moment n : ℕ) → n ≤ length records → n ≤ length (settled_where at_rest policy records moment)
settled_where_keeps true policy records moment n h = settled_keeps policy records moment n h
settled_where_keeps false policy records moment n h = h

-- nor does a step
step_keeps : (policy : PolicyData) (records : List RecordData) (step : Step) (n : ℕ) → n ≤ length records → n ≤ length (after_step policy records step)
step_keeps policy records step n h = at (next policy records step)
  where
    at : (found : Option RecordData) → n ≤ length (option_map_or (λ (r : RecordData). records ++ r ∷ []) found records)
    at None = h
    at (Some r) = longer n records (records ++ r ∷ []) (r ∷ []) refl h

-- so a day that was full in front of the step is full behind it
pub full_before : (at_rest : Bool) (policy : PolicyData) (records : List RecordData) (step : Step) (moment n : ℕ) → n ≤ length records
    → n ≤ length (settled_where at_rest policy (after_step policy records step) moment)
full_before at_rest policy records step moment n h = settled_where_keeps at_rest policy (after_step policy records step) moment n (step_keeps policy records step n h)

-- and once full, the day stays full
pub still_full : (old new : PolicyData) (records : List RecordData) (r : RecordData) (n : ℕ) → n ≤ length (redone_under old new records).records → n ≤ length (redone_under old new (records ++ r ∷ [])).records
still_full old new records r n h =
    subst (λ (day : Redone). n ≤ length day.records) (sym (under_next old new records r))
    (full_before _ new (redone_under old new records).records r.step r.moment n h)

-- a gate on the way to where it settles is no longer than it is there
pub full_settled : (before now : GateData) (moment : ℕ) → settled_gate now moment ≡ settled_gate before moment → IsFull now → day_limit ≤ length (settled_records before.policy before.records moment)
full_settled before now moment same full =
    subst (λ (gate : GateData). day_limit ≤ length gate.records) same (settled_keeps now.policy now.records moment day_limit full)

-- and is there once no order waits
pub settled_here : (before now : GateData) (moment : ℕ) → settled_gate now moment ≡ settled_gate before moment → next now.policy now.records (Step.Matching moment) ≡ None
    → now.records ≡ settled_records before.policy before.records moment
settled_here before now moment same none = sym (settled_idle now.policy now.records moment none) ∙ ap (λ (gate : GateData). gate.records) same
