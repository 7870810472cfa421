-- What raises no figure, as laws.
use Rattle.std.proofs.Common.{◌≡◌, ℕ, ◌≤◌, List, [], ◌∷◌, ◌++◌, refl, ap, ◌∙◌, arith}
use Rattle.std.specs.Prelude.{Option, Some, None, option_map, unwrap_or}
use Rattle.gx_policy.specs.declared.policy.PolicyData.{PolicyData}
use Rattle.gx_history.specs.declared.record.RecordData.{RecordData}
use Rattle.gx_laws.proofs.Streams_next.{legal_before}
use Rattle.gx_peaks.specs.{declared.figure.Figure.Figure, Figures.amount, Laws.{LimitsStay, MostRaiseNothing}}
use Rattle.gx_peaks.proofs.{Figures_unraised.none_rises, Limit_kept.limit_is_kept, Figure_sort.{Sort, amount_is, sort_of, total_of, used_is}}

-- a figure of no rule is 0
amount_of_none : (policy : PolicyData) (figure : Figure) → sort_of policy figure ≡ None → (records : List RecordData) → amount policy figure records ≡ 0
amount_of_none policy figure none records =
    ap (λ (o : Option ℕ). unwrap_or o 0) (used_is policy figure records) ∙ ap (λ (found : Option Sort). unwrap_or (option_map (λ (s : Sort). total_of policy s records) found) 0) none

pub most_raise_nothing : MostRaiseNothing
most_raise_nothing policy records r figure legal none no_gains = by (sort_of policy figure) refl
  where
    by : (found : Option Sort) → sort_of policy figure ≡ found → amount policy figure (records ++ r ∷ []) ≤ amount policy figure records
    by None e = let now = amount_of_none policy figure e (records ++ r ∷ []) in omega (arith, now)
    by (Some s) e =
        let parts = legal_before records r legal in
        let fall = none_rises policy records r parts.0 parts.1 none no_gains s in
        let now = amount_is policy figure s e (records ++ r ∷ []) in
        let before = amount_is policy figure s e records in
        omega (arith, fall, now, before)

pub limits_stay : LimitsStay
limits_stay = limit_is_kept
