-- A day begins with nothing used, and an empty table keeps its peaks; what is asked of a table is the peak that it keeps.
use Rattle.std.proofs.{Common.{◌≡◌, ℕ, pos, ◌+ℤ◌, ◌-ℤ◌, Bool, true, List, [], refl, sym, ap, subst, ◌∙◌, take, arith}, lemmas.List.take_all}
use Rattle.std.specs.{Prelude.{Option, Some, None, IfSome, is_some}, Option.option_map_or, Map.lookup}
use Rattle.gx_units.specs.declared.names.{AccountName.AccountName, RuleId.RuleId}
use Rattle.gx_ouch.specs.declared.outbound.OrderTerms.{OrderTerms}
use Rattle.gx_policy.specs.declared.policy.PolicyData.{PolicyData}
use Rattle.gx_history.specs.{declared.«record».RecordData.RecordData, Figures.{Positions, live_value, net_done, on_side, open_of_chosen, other_side, side_live}}
use Rattle.gx_laws.proofs.{Exposure_turn.{shares_held, value_held}, Positions_next.days_begin_empty, Figures_next.{done_none, done_value_none}}
use Rattle.gx_records.specs.State.{limit_in_force}
use Rattle.gx_peaks.specs.{declared.{figure.Figure.Figure, key.PeakKey.PeakKey, peak.Peak.Peak, table.{HeldPeak.HeldPeak, PeakTable.PeakTable}}, Figures.{above_zero, amount, is_counted}, Keys.{key_of, same_key}, Noting.{AreHeld, peak_under}, Peaks.{IsPeakOf, is_past, limit_behind}, Raising.peak_at_zero}
use Rattle.gx_peaks.proofs.{Peaks_next.none_is_within, Figure_sort.{Net, Shares, Sort, Value, amount_is, has_sort, total_of}}

none_open : (chosen : AccountName → OrderTerms → Bool) → open_of_chosen [] chosen ≡ 0
unfolding open_of_chosen
none_open chosen = refl

none_open_value : (among : AccountName → Bool) → live_value [] among ≡ 0
unfolding live_value
none_open_value among = refl

-- nothing is used before all records
total_none : (policy : PolicyData) (s : Sort) → total_of policy s [] ≡ 0
total_none policy (Shares among) =
    ap (λ (p : Positions). shares_held p (λ account terms. among account)) (days_begin_empty policy) ∙ omega (arith, none_open (λ account terms. among account), done_none (λ account terms. among account))
total_none policy (Value among) = ap (λ (p : Positions). value_held p among) (days_begin_empty policy) ∙ omega (arith, none_open_value among, done_value_none among)
total_none policy (Net among side) =
    ap (λ (p : Positions). above_zero (net_done p.executions among side +ℤ pos (side_live p.live among side))) (days_begin_empty policy)
    ∙ (λ i. above_zero ((pos (done_none (on_side among side) i) -ℤ pos (done_none (on_side among (other_side side)) i)) +ℤ pos (none_open (on_side among side) i)))

pub amount_none : (policy : PolicyData) (f : Figure) → is_counted policy f ≡ true → amount policy f [] ≡ 0
amount_none policy f counted = let sort = has_sort policy f counted in amount_is policy f sort.0 sort.1 [] ∙ total_none policy sort.0

front_of_none : (n : ℕ) → take {A = RecordData} n [] ≡ []
front_of_none n = take_all n [] (omega arith)

-- the peak of a figure that is 0 before all records
unmoved_is : (policy : PolicyData) (rule : RuleId) (figure : List RecordData → ℕ) → figure [] ≡ 0 → IsPeakOf policy rule figure [] (peak_at_zero (limit_in_force policy [] rule))
unmoved_is policy rule figure none = record {
  greatest = record {
    within = omega arith;
    attained = none;
    greatest = λ n. let here = ap figure (front_of_none n) in omega (arith, here, none);
    first = λ n below. absurd (omega (arith, below));
  };
  limit = refl;
  moment = refl;
  first_past = λ n. ap (is_past figure (limit_behind policy rule)) (front_of_none n) ∙ none_is_within (figure []) (limit_in_force policy [] rule) (omega (arith, none));
}

-- an empty table keeps them
pub empty_holds : (table : PeakTable) → table.peaks.entries ≡ [] → (policy : PolicyData) → AreHeld policy [] table
empty_holds table empty policy = record {
  peaks = λ f counted. subst (IsPeakOf policy f.rule (amount policy f) []) (sym (kept f)) (unmoved_is policy f.rule (amount policy f) (amount_none policy f counted));
  theirs = λ key held found. let no : None ≡ Some held = sym (ap (λ (es : List (PeakKey × HeldPeak)). lookup (same_key key) es) empty) ∙ found in cc;
}
  where
    kept : (f : Figure) → peak_under policy table (key_of policy f) ≡ peak_at_zero (limit_in_force policy [] f.rule)
    kept f = ap (λ (es : List (PeakKey × HeldPeak)). option_map_or (λ (h : HeldPeak). h.peak) (lookup (same_key (key_of policy f)) es) (peak_at_zero (limit_in_force policy [] f.rule))) empty

-- what is answered of a figure is its peak
pub answered : (policy : PolicyData) (f : Figure) (table : PeakTable) (answer : Option Peak) → is_some answer ≡ is_counted policy f → IfSome answer (λ p. p ≡ peak_under policy table (key_of policy f))
    → (records : List RecordData) → AreHeld policy records table → IfSome answer (IsPeakOf policy f.rule (amount policy f) records)
answered policy f table None counted is records held = tt
answered policy f table (Some p) counted is records held = subst (IsPeakOf policy f.rule (amount policy f) records) (sym is) (held.peaks f (sym counted))
