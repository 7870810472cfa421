-- What is kept are exactly the warnings.
use Rattle.std.proofs.{Common.{◌≡◌, ℕ, ◌+◌, ◌≤◌, ◌<◌, true, false, cond, List, [], ◌∷◌, length, map, take, get_or, refl, sym, subst, ◌∙◌, arith}, lemmas.List.{get_or-map, length-map}}
use Rattle.std.specs.{Prelude.{Option, Some, None, ◌==◌}, List.{AllByRecursion, count_by, list_any, Sorted.IsNonDecreasingBy}, Map.lookup}
use Rattle.gx_units.proofs.Lists_hold.{all_weaker}
use Rattle.gx_policy.specs.declared.policy.PolicyData.{PolicyData}
use Rattle.gx_history.specs.declared.record.RecordData.{RecordData}
use Rattle.gx_peaks.specs.{declared.figure.Figure.Figure, Figures.is_counted}
use Rattle.gx_warnings.specs.{declared.{mark.Mark.Mark, warning.Warning.Warning}, Keeping.{IsEntry, IsKnown, Keeps}, Marks.{mark_of, same_mark}, Warnings.{AreWarnings, IsWarning, is_of_share, is_passed}}
use Rattle.gx_warnings.proofs.Entries_next.{counts_first, one_counts}

abbrev told : (Mark × Warning) → Warning
told entry = entry.1

each_told : (P : Warning → Type 0) (entries : List (Mark × Warning)) → AllByRecursion (λ (e : Mark × Warning). P e.1) entries → AllByRecursion P (map told entries)
each_told P [] h = tt
each_told P (e ∷ entries) h = (h.0, each_told P entries h.1)

in_order_told : (policy : PolicyData) (entries : List (Mark × Warning)) → IsNonDecreasingBy (λ (e : Mark × Warning). e.1.reading.number) entries → IsNonDecreasingBy (λ (w : Warning). w.reading.number) (map told entries)
in_order_told policy entries rise i j d low within =
    let e : Mark × Warning = (mark_of policy d.figure d.share, d) in
    let many : length (map told entries) ≡ length entries = length-map entries told in
    let below : j < length entries = omega (arith, within, many) in
    let first : get_or (map told entries) i d ≡ told (get_or entries i e) = get_or-map told entries i e d (omega (arith, below, low)) in
    let second : get_or (map told entries) j d ≡ told (get_or entries j e) = get_or-map told entries j e d below in
    subst (λ (w : Warning). w.reading.number ≤ (get_or (map told entries) j d).reading.number) (sym first)
    (subst (λ (w : Warning). (get_or entries i e).1.reading.number ≤ w.reading.number) (sym second) (rise i j e low below))

counts_told : (policy : PolicyData) (shares : List ℕ) (records : List RecordData) (f : Figure) (s : ℕ) (entries : List (Mark × Warning)) → AllByRecursion (IsEntry policy shares records) entries
    → count_by (is_of_share policy f s) (map told entries) ≡ count_by (λ (e : Mark × Warning). same_mark (mark_of policy f s) e.0) entries
counts_told policy shares records f s [] h = refl
counts_told policy shares records f s (e ∷ entries) h =
    counts_first (is_of_share policy f s) e.1 (map told entries)
    ∙ (λ i. cond (same_mark (mark_of policy f s) (sym h.0.has_mark i)) 1 0 + counts_told policy shares records f s entries h.1 i)
    ∙ sym (counts_first (λ (e : Mark × Warning). same_mark (mark_of policy f s) e.0) e entries)

pub exactly : {policy : PolicyData} (shares : List ℕ) {records : List RecordData} (entries : List (Mark × Warning)) → Keeps policy shares records entries → AreWarnings policy shares records (map (λ (e : Mark × Warning). e.1) entries)
exactly {policy} shares {records} entries keeps = record {
  each =
      each_told (IsWarning policy shares records) entries
      (all_weaker (IsEntry policy shares records) (λ (e : Mark × Warning). IsWarning policy shares records e.1) (λ e is. is.is_warning) entries keeps.each);
  in_order = in_order_told policy entries keeps.in_order;
  exactly_one = λ f counted s asked n passed. by f counted s asked n passed (lookup (same_mark (mark_of policy f s)) entries) refl;
}
  where
    by : (f : Figure) → is_counted policy f ≡ true → (s : ℕ) → list_any (λ (a : ℕ). a == s) shares ≡ true → (n : ℕ) → is_passed policy f s (take n records) ≡ true
        → (found : Option Warning) → lookup (same_mark (mark_of policy f s)) entries ≡ found → count_by (is_of_share policy f s) (map told entries) ≡ 1
    by f counted s asked n passed None e =
        let no : false ≡ true = sym (subst (IsKnown policy f s records) e (keeps.known f counted s asked) n) ∙ passed in
        cc
    by f counted s asked n passed (Some w) e =
        let some = one_counts (same_mark (mark_of policy f s)) entries w e in
        let once = keeps.once (mark_of policy f s) in
        let same = counts_told policy shares records f s entries keeps.each in
        omega (arith, some, once, same)
