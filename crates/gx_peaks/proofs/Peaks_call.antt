-- How the table of peaks is brought from the records but the last to all of them.
use Rattle.std.proofs.{Common.{◌≡◌, ℕ, Bool, true, false, cond, ◌⊎◌, inl, inr, List, [], ◌∷◌, ◌++◌, refl, sym, ap, subst, ◌∙◌}, lemmas.Option.same_Some}
use Rattle.std.specs.{Prelude.{Option, Some, None, is_some, unwrap_or}, Option.option_map_or, Map.keys_of}
use Rattle.gx_policy.specs.declared.policy.PolicyData.{PolicyData}
use Rattle.gx_history.specs.declared.record.RecordData.{RecordData}
use Rattle.gx_records.specs.State.{limit_in_force}
use Rattle.gx_peaks.specs.{declared.{figure.Figure.Figure, key.PeakKey.PeakKey, peak.{Peak.Peak, Reading.Reading}, table.{HeldPeak.HeldPeak, PeakTable.PeakTable}}, Figures.{amount, is_counted, used_of}, Keys.{key_of, same_key}, Noting.{Advances, AdvancesTo, AreTheirs, IsHeld, IsNoted, IsSame, IsKeptUnder, Lags, figure_at, held_under, peak_after, peak_under}, Peaks.IsPeakOf, Raising.{reading_of, taken_in, peak_at_zero}, Same.{key_is, key_is_itself}}
use Rattle.gx_peaks.proofs.{OnePeak_next.{taken_again, taken_in_is}, Figures_same.amounts_same, Figure_sort.is_some_always}

-- ---- one figure is noted

module _ (policy : PolicyData) (records : List RecordData) (figure : Figure) (old new : PeakTable) (used : ℕ)
    (is : used_of policy figure records ≡ Some used) (note : IsNoted policy records figure old new) where
  abbrev peak_in : PeakKey → Option HeldPeak → Peak
  peak_in key held = option_map_or (λ (h : HeldPeak). h.peak) held (peak_at_zero (limit_in_force policy [] key.rule))

  -- it is counted
  counted_here : is_counted policy figure ≡ true
  counted_here = is_some_always policy figure [] ∙ sym (is_some_always policy figure records) ∙ ap is_some is

  -- what stands under a key then
  stands : (key : PeakKey) (b : Bool) → same_key (key_of policy figure) key ≡ b → held_under new key ≡ cond b (Some (peak_after policy records figure used old)) (held_under old key)
  stands key b e = note.put used is key ∙ ap (λ (b : Bool). cond b (Some (peak_after policy records figure used old)) (held_under old key)) e

  -- under another key what stood there
  elsewhere : (f : Figure) → same_key (key_of policy figure) (key_of policy f) ≡ false → peak_under policy new (key_of policy f) ≡ peak_under policy old (key_of policy f)
  elsewhere f e = ap (peak_in (key_of policy f)) (stands (key_of policy f) false e)

  -- under its own the peak with what is read
  here : (f : Figure) → is_counted policy f ≡ true → key_of policy figure ≡ key_of policy f
      → peak_under policy new (key_of policy f) ≡ taken_in (reading_of policy records f.rule (amount policy f records)) (peak_under policy old (key_of policy f))
  here f counted e =
      let same : same_key (key_of policy figure) (key_of policy f) ≡ true = ap (same_key (key_of policy figure)) (sym e) ∙ key_is_itself (key_of policy figure) in
      let reads : used ≡ amount policy f records = sym (ap (λ (o : Option ℕ). unwrap_or o 0) is) ∙ amounts_same policy figure f counted_here counted e records in
      ap (peak_in (key_of policy f)) (stands (key_of policy f) true same)
      ∙ (λ i. taken_in (reading_of policy records (ap (λ (k : PeakKey). k.rule) e i) (reads i)) (peak_under policy old (e i)))

  held_elsewhere : (f : Figure) (h : List RecordData) → same_key (key_of policy figure) (key_of policy f) ≡ false → IsHeld policy h old f → IsHeld policy h new f
  held_elsewhere f h e held = subst (IsPeakOf policy f.rule (amount policy f) h) (sym (elsewhere f e)) held

  all_theirs : AreTheirs policy old → AreTheirs policy new
  all_theirs theirs key held found = by (same_key (key_of policy figure) key) refl
    where
      by : (b : Bool) → same_key (key_of policy figure) key ≡ b → IsKeptUnder policy key (figure_at key held)
      by false e = theirs key held (sym (stands key false e) ∙ found)
      by true e =
          let it : key_of policy figure ≡ key = key_is (key_of policy figure) key e in
          let his : peak_after policy records figure used old ≡ held = same_Some _ _ (sym (stands key true e) ∙ found) in
          let same : figure ≡ figure_at key held = λ i. record {
            rule = ap (λ (k : PeakKey). k.rule) it i;
            account = ap (λ (h : HeldPeak). h.account) his i;
            side = ap (λ (k : PeakKey). k.side) it i;
          } in
          subst (IsKeptUnder policy key) same (record { is_counted = counted_here; has_key = it })

  module _ (earlier : List RecordData) (r : RecordData) (last : records ≡ earlier ++ r ∷ []) where
    -- it is held over all records
    held_here : (f : Figure) → is_counted policy f ≡ true → key_of policy figure ≡ key_of policy f → Lags policy earlier records old f → IsHeld policy records new f
    held_here f counted e (inl before) =
        subst (IsPeakOf policy f.rule (amount policy f) records) (sym (here f counted e))
        (subst (λ (h : List RecordData). IsPeakOf policy f.rule (amount policy f) h (taken_in (reading_of policy h f.rule (amount policy f h)) (peak_under policy old (key_of policy f)))) (sym last)
        (taken_in_is policy f.rule (amount policy f) earlier r (peak_under policy old (key_of policy f)) before))
    held_here f counted e (inr now) = subst (IsPeakOf policy f.rule (amount policy f) records) (sym (here f counted e)) (taken_again policy f.rule (amount policy f) records (peak_under policy old (key_of policy f)) now)

    goes_on : (f : Figure) → is_counted policy f ≡ true → Lags policy earlier records old f → (b : Bool) → same_key (key_of policy figure) (key_of policy f) ≡ b → Lags policy earlier records new f
    goes_on f counted lag true e = inr (held_here f counted (key_is (key_of policy figure) (key_of policy f) e) lag)
    goes_on f counted (inl before) false e = inl (held_elsewhere f earlier e before)
    goes_on f counted (inr now) false e = inr (held_elsewhere f records e now)

    stays_so : (f : Figure) → is_counted policy f ≡ true → IsHeld policy records old f → (b : Bool) → same_key (key_of policy figure) (key_of policy f) ≡ b → IsHeld policy records new f
    stays_so f counted now true e = held_here f counted (key_is (key_of policy figure) (key_of policy f) e) (inr now)
    stays_so f counted now false e = held_elsewhere f records e now

    advances : Advances policy earlier records (λ f. IsSame policy f figure) old new
    advances = record {
      goes = λ f counted lag. goes_on f counted lag (same_key (key_of policy figure) (key_of policy f)) refl;
      stays = λ f counted now. stays_so f counted now (same_key (key_of policy figure) (key_of policy f)) refl;
      done = λ f counted same lag. held_here f counted (sym same.same_key) lag;
      theirs = all_theirs;
    }

-- nothing is done
pub stays_put : (policy : PolicyData) (records : List RecordData) (reached : Figure → Type 0) (table : PeakTable) → ((f : Figure) → is_counted policy f ≡ true → reached f → ⊥) → AdvancesTo policy records reached table table
stays_put policy records reached table none earlier r is = record {
  goes = λ f counted lag. lag;
  stays = λ f counted now. now;
  done = λ f counted reaches lag. absurd (none f counted reaches);
  theirs = λ theirs. theirs;
}

-- once the figure is noted, it is over all records
pub noted_advances : {policy : PolicyData} {records : List RecordData} (figure : Figure) (old new : PeakTable) → IsNoted policy records figure old new → AdvancesTo policy records (λ f. IsSame policy f figure) old new
noted_advances {policy} {records} figure old new note = by (used_of policy figure records) refl
  where
    by : (found : Option ℕ) → used_of policy figure records ≡ found → AdvancesTo policy records (λ f. IsSame policy f figure) old new
    by (Some used) e = advances policy records figure old new used e note
    by None e =
        subst (AdvancesTo policy records (λ f. IsSame policy f figure) old) (sym (note.not_counted e))
        (stays_put policy records (λ f. IsSame policy f figure) old
        (λ f counted same. let no : false ≡ true = sym (ap is_some e) ∙ is_some_always policy figure records ∙ sym (is_some_always policy figure []) ∙ same.is_counted in cc))

-- and what is kept is of figures of its keys
pub noted_theirs : {policy : PolicyData} {records : List RecordData} (figure : Figure) (old new : PeakTable) → IsNoted policy records figure old new → AreTheirs policy old → AreTheirs policy new
noted_theirs {policy} {records} figure old new note theirs = by (used_of policy figure records) refl
  where
    by : (found : Option ℕ) → used_of policy figure records ≡ found → AreTheirs policy new
    by (Some used) e = all_theirs policy records figure old new used e note theirs
    by None e = subst (AreTheirs policy) (sym (note.not_counted e)) theirs

-- one behind the other
pub and_then : (policy : PolicyData) (records : List RecordData) (first second : Figure → Type 0) (old mid new : PeakTable) → AdvancesTo policy records first old mid → AdvancesTo policy records second mid new
    → AdvancesTo policy records (λ f. first f ⊎ second f) old new
and_then policy records first second old mid new a b earlier r is =
    let one = a earlier r is in
    let two = b earlier r is in
    record {
      goes = λ f counted lag. two.goes f counted (one.goes f counted lag);
      stays = λ f counted now. two.stays f counted (one.stays f counted now);
      done = λ f counted reaches lag. either f counted lag reaches;
      theirs = λ theirs. two.theirs (one.theirs theirs);
    }
  where
    either : (f : Figure) → is_counted policy f ≡ true → Lags policy earlier records old f → first f ⊎ second f → IsHeld policy records new f
    either f counted lag (inl x) = (b earlier r is).stays f counted ((a earlier r is).done f counted x lag)
    either f counted lag (inr y) = (b earlier r is).done f counted y ((a earlier r is).goes f counted lag)

-- in other words
pub reached_by : (policy : PolicyData) (records : List RecordData) (first second : Figure → Type 0) (old new : PeakTable) → ((f : Figure) → is_counted policy f ≡ true → second f → first f) → AdvancesTo policy records first old new
    → AdvancesTo policy records second old new
reached_by policy records first second old new weaker a earlier r is =
    let one = a earlier r is in
    record { goes = one.goes; stays = one.stays; done = λ f counted reaches lag. one.done f counted (weaker f counted reaches) lag; theirs = one.theirs }

-- what was asked of the figure, and what was put under its key
pub put_so : (policy one two : PolicyData) (records : List RecordData) (figure : Figure) (old new : PeakTable) (answer : Option ℕ) (found : ℕ) (key : PeakKey) (read : Reading) (before peak : Peak)
    → one ≡ policy → two ≡ policy → answer ≡ used_of policy figure records → answer ≡ Some found → key ≡ key_of one figure → before ≡ peak_under two old key
    → read ≡ reading_of policy records figure.rule found → peak ≡ taken_in read before
    → ((q : PeakKey) → held_under new q ≡ cond (same_key key q) (Some (record { account = figure.account; peak = peak })) (held_under old q))
    → (is_some (held_under old key) ≡ true → keys_of new.peaks.entries ≡ keys_of old.peaks.entries) → IsNoted policy records figure old new
put_so policy one two records figure old new answer found key read before peak first second asked is_found is_key is_before is_read is_peak puts keeps =
    let its : key ≡ key_of policy figure = is_key ∙ ap (λ (p : PolicyData). key_of p figure) first in
    record {
      put = λ used is q.
          let same : found ≡ used = same_Some _ _ (sym is_found ∙ asked ∙ is) in
          let reads : read ≡ reading_of policy records figure.rule used = is_read ∙ ap (reading_of policy records figure.rule) same in
          let was : before ≡ peak_under policy old (key_of policy figure) = is_before ∙ (λ i. peak_under (second i) old (its i)) in
          let now : peak ≡ taken_in (reading_of policy records figure.rule used) (peak_under policy old (key_of policy figure)) = is_peak ∙ (λ i. taken_in (reads i) (was i)) in
          puts q ∙ (λ i. cond (same_key (its i) q) (Some (record { account = figure.account; peak = now i })) (held_under old q));
      not_counted = λ none. let no : Some found ≡ None = sym is_found ∙ asked ∙ none in cc;
      keys = λ there. keeps (ap (λ (k : PeakKey). is_some (held_under old k)) its ∙ there);
    }
