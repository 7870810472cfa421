-- A day begins with nothing used, and with no warning.
use Rattle.std.proofs.{Common.{◌≡◌, ℕ, true, false, List, [], ◌∷◌, sym, ap, subst, ◌∙◌, take, arith}, lemmas.List.{take_all, Sorted.IsNonDecreasingBy-short}}
use Rattle.std.specs.{Prelude.◌==◌, List.list_any}
use Rattle.gx_policy.specs.declared.policy.PolicyData.{PolicyData}
use Rattle.gx_history.specs.declared.record.RecordData.{RecordData}
use Rattle.gx_records.specs.State.{limit_in_force}
use Rattle.gx_peaks.specs.{declared.figure.Figure.Figure, Figures.{amount, is_counted}}
use Rattle.gx_peaks.proofs.Peaks_first.{amount_none}
use Rattle.gx_warnings.specs.{declared.{mark.Mark.Mark, warning.Warning.Warning, warnings.Warnings.Warnings}, Keeping.{AreWarningsKept, Keeps}, Warnings.is_passed}
use Rattle.gx_warnings.proofs.Share_first.{none_short}

nothing_passed : (policy : PolicyData) (f : Figure) → is_counted policy f ≡ true → (share n : ℕ) → is_passed policy f share (take {A = RecordData} n []) ≡ false
nothing_passed policy f counted share n =
    let none = amount_none policy f counted in
    ap (is_passed policy f share) (take_all n [] (omega arith)) ∙ none_short share (amount policy f []) (limit_in_force policy [] f.rule) (omega (arith, none))

none_kept : (policy : PolicyData) (shares : List ℕ) → Keeps policy shares [] []
none_kept policy shares = record {
  known = λ f counted share asked. nothing_passed policy f counted share;
  each = tt;
  in_order = IsNonDecreasingBy-short (λ (entry : Mark × Warning). entry.1.reading.number) [] (omega arith);
  once = λ mark. omega arith;
}

pub empty_keeps : (w : Warnings) (asked : List ℕ) → w.table.entries.entries ≡ [] → w.shares.items ≡ 0 ∷ asked → (policy : PolicyData) → AreWarningsKept policy [] w
empty_keeps w asked empty shares policy = record {
  keeps = subst (Keeps policy w.shares.items []) (sym empty) (none_kept policy w.shares.items);
  first_uses = ap (λ (ss : List ℕ). list_any (λ (a : ℕ). a == 0) ss) shares;
}
