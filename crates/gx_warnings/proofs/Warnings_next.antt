-- Behind each record the table keeps the warnings over all records.
use Rattle.std.proofs.{Common.{◌≡◌, ℕ, ◌*◌, ◌≤◌, Bool, true, false, ◌⊎◌, inl, inr, List, [], ◌∷◌, ◌++◌, refl, sym, ap, subst, ◌∙◌, arith}, lemmas.Bool.{leb-true, le-leb, lt-ltb, ltb-false, ltb-true}}
use Rattle.std.specs.{Prelude.{Option, Some, None, ◌&&◌, ◌==◌, nat_le, nat_lt}, List.{list_any}, Map.lookup, Option.option_map_or}
use Rattle.gx_units.specs.{Names.same_rule, declared.names.{AccountName.AccountName, RuleId.RuleId}}
use Rattle.gx_units.proofs.Lists_hold.{all_weaker}
use Rattle.gx_policy.specs.{declared.policy.PolicyData.PolicyData, Soundness.is_sound}
use Rattle.gx_history.specs.{declared.{live_order.LiveOrder.LiveOrder, «record».RecordData.RecordData}, Live.{live, live_numbered}, Verdicts.{Follows, IsLegal}}
use Rattle.gx_laws.proofs.Streams_next.{legal_before}
use Rattle.gx_records.specs.State.{limit_in_force}
use Rattle.gx_peaks.specs.{declared.figure.Figure.Figure, Figures.{amount, is_counted}, Noting.{IsOfAccount, stock_side_of}, Raising.reading_of, Touching.{gains_of, set_in, sets_limit}}
use Rattle.gx_peaks.proofs.{Peaks_next.gainer_is_known, NewOrder_live.account_is_known, Figures_unraised.{counts_gain, counts_order, no_rise}, OnePeak_next.front, Figures_same.{counts_it, counts_its_gain}, Limit_kept.limit_is_kept, Figure_sort.{Sort, amount_is, has_sort, sort_of}}
use Rattle.gx_warnings.specs.{declared.{mark.Mark.Mark, warning.Warning.Warning}, Keeping.{IsEntry, IsKnown, Keeps}, Marks.{mark_of, same_mark}, Moving.{figures_among, figures_of_gain, figures_of_order, figures_of_setting, warnings_after}, Noting.with_figure_warnings, Warnings.{is_passed, passes}}
use Rattle.gx_warnings.proofs.{Figures_covered.{account_covers, covers_left, covers_right, setting_covers}, Share_first.{first_stays, never_goes_on, never_now, none_short}, Limit_none.none_stays, Warnings_call.{Covers, Goes, Lags, Now, Step, figures_put}}

-- no more than before passes no more, of the same limit
still_short : (share before now : ℕ) (limit : Option ℕ) → now ≤ before → passes share before limit ≡ false → passes share now limit ≡ false
still_short share before now None low h = refl
still_short share before now (Some most) low h = by (nat_lt 0 now) refl (nat_le (share * most) (now * 100)) refl
  where
    by : (b : Bool) → nat_lt 0 now ≡ b → (c : Bool) → nat_le (share * most) (now * 100) ≡ c → (b && c) ≡ false
    by false e c k = refl
    by true e false k = refl
    by true e true k =
        let some = ltb-true 0 now e in
        let much = leb-true (share * most) (now * 100) k in
        let more : now * 100 ≤ before * 100 = omega (arith, low) in
        let was : nat_lt 0 before ≡ true = lt-ltb 0 before (omega (arith, some, low)) in
        let past : nat_le (share * most) (before * 100) ≡ true = le-leb (share * most) (before * 100) (omega (arith, much, more)) in
        let no : true ≡ false = sym (λ i. was i && past i) ∙ h in
        cc

-- what was above 0 behind no record, and has not risen, passes no share, whatever the limit becomes
unused_short : (share before now : ℕ) (earlier limit : Option ℕ) → now ≤ before → (earlier ≡ None → limit ≡ None) → passes 0 before earlier ≡ false → passes share now limit ≡ false
unused_short share before now None limit low none h = ap (passes share now) (none refl)
unused_short share before now (Some most) limit low none h = by (nat_lt 0 before) refl
  where
    by : (b : Bool) → nat_lt 0 before ≡ b → passes share now limit ≡ false
    by false e = let zero = ltb-false 0 before e in none_short share now limit (omega (arith, zero, low))
    by true e =
        let past : nat_le (0 * most) (before * 100) ≡ true = le-leb (0 * most) (before * 100) (omega arith) in
        let no : true ≡ false = sym (λ i. e i && past i) ∙ h in
        cc

-- what is kept is known of one more record, where that passes no share for the first time
settled : (policy : PolicyData) (f : Figure) (s : ℕ) (earlier : List RecordData) (r : RecordData) (found : Option Warning) → IsKnown policy f s earlier found
    → (is_passed policy f s earlier ≡ false → is_passed policy f s (earlier ++ r ∷ []) ≡ false) → IsKnown policy f s (earlier ++ r ∷ []) found
settled policy f s earlier r None never still = never_goes_on policy f s earlier r never (still (never_now policy f s earlier never))
settled policy f s earlier r (Some w) is still = first_stays policy f s earlier r w.reading.number is

-- a warning of the earlier records is one of all
entry_stays : {policy : PolicyData} (shares : List ℕ) {earlier : List RecordData} (r : RecordData) (e : Mark × Warning) → IsEntry policy shares earlier e → IsEntry policy shares (earlier ++ r ∷ []) e
entry_stays {policy} shares {earlier} r e is = record {
  has_mark = is.has_mark;
  is_warning = record {
    is_counted = is.is_warning.is_counted;
    is_asked = is.is_warning.is_asked;
    first = first_stays policy e.1.figure e.1.share earlier r e.1.reading.number is.is_warning.first;
    reading =
        is.is_warning.reading
        ∙ ap (λ (h : List RecordData). reading_of policy h e.1.figure.rule (amount policy e.1.figure h)) (sym (front e.1.reading.number earlier r is.is_warning.first.within));
  };
}

module _ (policy : PolicyData) (shares : List ℕ) (sound : is_sound policy ≡ true) (earlier : List RecordData) (r : RecordData) (legal : IsLegal policy (earlier ++ r ∷ []))
    (first_uses : list_any (λ (asked : ℕ). asked == 0) shares ≡ true) (es : List (Mark × Warning)) (keeps : Keeps policy shares earlier es) where
  abbrev records : List RecordData
  records = earlier ++ r ∷ []

  abbrev figures : List Figure
  figures = warnings_after policy records r (gains_of policy earlier r) es

  abbrev last : List (Mark × Warning)
  last = with_figure_warnings policy records shares es figures

  parts : IsLegal policy earlier × Follows policy (earlier, r)
  parts = legal_before earlier r legal

  start : Goes policy shares earlier r es
  start = record {
    lags = λ f c s a. inl (keeps.known f c s a);
    each = all_weaker (IsEntry policy shares earlier) (IsEntry policy shares records) (entry_stays shares r) es keeps.each;
    in_order = keeps.in_order;
    once = keeps.once;
  }

  all_put : Step policy shares earlier r (λ f s. Covers policy figures f) es last
  all_put = figures_put policy shares earlier r figures es

  end : Goes policy shares earlier r last
  end = all_put.goes start

  module _ (f : Figure) (counted : is_counted policy f ≡ true) (share : ℕ) (asked : list_any (λ (a : ℕ). a == share) shares ≡ true) (s : Sort) (is : sort_of policy f ≡ Some s) where
    covered : Covers policy figures f → Now policy shares earlier r last f share
    covered among = all_put.done f counted share asked among start

    -- it has not risen
    module _ (low : amount policy f records ≤ amount policy f earlier) where
      unpassed : (is_passed policy f share earlier ≡ false → is_passed policy f share records ≡ false) → Lags policy shares earlier r last f share → Now policy shares earlier r last f share
      unpassed still (inr now) = now
      unpassed still (inl before) = settled policy f share earlier r (lookup (same_mark (mark_of policy f share)) last) before still

      same_limit : sets_limit r f.rule ≡ false → is_passed policy f share earlier ≡ false → is_passed policy f share records ≡ false
      same_limit kept h =
          ap (passes share (amount policy f records)) (limit_is_kept policy earlier r f.rule kept)
          ∙ still_short share (amount policy f earlier) (amount policy f records) (limit_in_force policy earlier f.rule) low h

      -- nothing is kept of its use, so it never was above 0
      never_used : lookup (same_mark (mark_of policy f 0)) es ≡ None → is_passed policy f share earlier ≡ false → is_passed policy f share records ≡ false
      never_used none h =
          unused_short share (amount policy f earlier) (amount policy f records) (limit_in_force policy earlier f.rule) (limit_in_force policy records f.rule) low
          (λ no_limit. none_stays policy earlier r f.rule no_limit)
          (never_now policy f 0 earlier (subst (IsKnown policy f 0 earlier) none (keeps.known f counted 0 first_uses)))

      -- its limit is set
      is_set : (set : Option RuleId) → set_in r ≡ set → option_map_or (λ (named : RuleId). same_rule named f.rule) set false ≡ true → Now policy shares earlier r last f share
      is_set None e h = cc
      is_set (Some rule) e h = by (lookup (same_mark (mark_of policy f 0)) es) refl
        where
          by : (found : Option Warning) → lookup (same_mark (mark_of policy f 0)) es ≡ found → Now policy shares earlier r last f share
          by None k = unpassed (never_used k) (end.lags f counted share asked)
          by (Some w) k =
              covered
              (covers_right policy f (figures_of_order policy (live_numbered (live policy records) r.number) ++ figures_of_gain policy (gains_of policy earlier r)) (figures_of_setting (set_in r) es)
              (subst (λ (set : Option RuleId). Covers policy (figures_of_setting set es) f) (sym e) (setting_covers policy shares earlier rule f h es w keeps.each k)))

      by_limit : (b : Bool) → sets_limit r f.rule ≡ b → Now policy shares earlier r last f share
      by_limit true e = is_set (set_in r) refl e
      by_limit false e = unpassed (same_limit e) (end.lags f counted share asked)

    -- no order and no gain that it counts
    untouched : option_map_or (counts_order s) (live_numbered (live policy records) r.number) false ≡ false → option_map_or (counts_gain s) (gains_of policy earlier r) false ≡ false
        → Now policy shares earlier r last f share
    untouched none no_gains =
        let fall = no_rise policy earlier r parts.0 parts.1 s none no_gains in
        let now = amount_is policy f s is records in
        let before = amount_is policy f s is earlier in
        by_limit (omega (arith, fall, now, before)) (sets_limit r f.rule) refl

    gain_covers : (account : AccountName) → gains_of policy earlier r ≡ Some account → counts_gain s account ≡ true → Covers policy figures f
    gain_covers account e k =
        covers_left policy f (figures_of_order policy (live_numbered (live policy records) r.number) ++ figures_of_gain policy (gains_of policy earlier r)) (figures_of_setting (set_in r) es)
        (covers_right policy f (figures_of_order policy (live_numbered (live policy records) r.number)) (figures_of_gain policy (gains_of policy earlier r))
        (subst (λ (a : Option AccountName). Covers policy (figures_of_gain policy a) f) (sym e)
        (account_covers policy account None f (counts_its_gain policy f s account is (gainer_is_known account sound parts.0 r.verdict e) k))))

    by_gain : option_map_or (counts_order s) (live_numbered (live policy records) r.number) false ≡ false → (found : Option AccountName) → gains_of policy earlier r ≡ found
        → Now policy shares earlier r last f share
    by_gain none None e = untouched none (ap (λ (a : Option AccountName). option_map_or (counts_gain s) a false) e)
    by_gain none (Some account) e = by (counts_gain s account) refl
      where
        by : (b : Bool) → counts_gain s account ≡ b → Now policy shares earlier r last f share
        by false k = untouched none (ap (λ (a : Option AccountName). option_map_or (counts_gain s) a false) e ∙ k)
        by true k = covered (gain_covers account e k)

    order_covers : (o : LiveOrder) → live_numbered (live policy records) r.number ≡ Some o → counts_order s o ≡ true → Covers policy figures f
    order_covers o e k =
        covers_left policy f (figures_of_order policy (live_numbered (live policy records) r.number) ++ figures_of_gain policy (gains_of policy earlier r)) (figures_of_setting (set_in r) es)
        (covers_left policy f (figures_of_order policy (live_numbered (live policy records) r.number)) (figures_of_gain policy (gains_of policy earlier r))
        (subst (λ (x : Option LiveOrder). Covers policy (figures_of_order policy x) f) (sym e) (either (counts_it policy f s o is (account_is_known r.number o sound legal e) k))))
      where
        either : IsOfAccount policy o.account None f ⊎ IsOfAccount policy o.account (Some (stock_side_of o)) f → Covers policy (figures_among o.account None policy.rules ++ figures_among o.account (Some (stock_side_of o)) policy.rules) f
        either (inl gross) = covers_left policy f (figures_among o.account None policy.rules) (figures_among o.account (Some (stock_side_of o)) policy.rules) (account_covers policy o.account None f gross)
        either (inr net) =
            covers_right policy f (figures_among o.account None policy.rules) (figures_among o.account (Some (stock_side_of o)) policy.rules) (account_covers policy o.account (Some (stock_side_of o)) f net)

    by_order : (found : Option LiveOrder) → live_numbered (live policy records) r.number ≡ found → Now policy shares earlier r last f share
    by_order None e = by_gain (ap (λ (o : Option LiveOrder). option_map_or (counts_order s) o false) e) (gains_of policy earlier r) refl
    by_order (Some o) e = by (counts_order s o) refl
      where
        by : (b : Bool) → counts_order s o ≡ b → Now policy shares earlier r last f share
        by false k = by_gain (ap (λ (x : Option LiveOrder). option_map_or (counts_order s) x false) e ∙ k) (gains_of policy earlier r) refl
        by true k = covered (order_covers o e k)

  carried_at : Keeps policy shares records last
  carried_at = record {
    known = λ f counted share asked.
        let sort = has_sort policy f counted in
        by_order f counted share asked sort.0 sort.1 (live_numbered (live policy records) r.number) refl;
    each = end.each;
    in_order = end.in_order;
    once = end.once;
  }

-- once the figures are read that the last record can have raised, and those whose limit it set
pub all_carried : {policy : PolicyData} (shares : List ℕ) {records earlier : List RecordData} (r : RecordData) (seller : Option AccountName) (figures : List Figure) (old new : List (Mark × Warning)) → is_sound policy ≡ true
    → IsLegal policy records → list_any (λ (asked : ℕ). asked == 0) shares ≡ true → records ≡ earlier ++ r ∷ [] → Keeps policy shares earlier old → seller ≡ gains_of policy earlier r
    → figures ≡ warnings_after policy records r seller old → new ≡ with_figure_warnings policy records shares old figures → Keeps policy shares records new
all_carried {policy} shares {records} {earlier} r seller figures old new sound legal first_uses is keeps sells lists puts =
    let P : List RecordData → Type 0 = λ h. IsLegal policy h → figures ≡ warnings_after policy h r (gains_of policy earlier r) old → new ≡ with_figure_warnings policy h shares old figures → Keeps policy shares h new in
    subst P (sym is)
    (λ legal lists puts.
    subst (Keeps policy shares (earlier ++ r ∷ [])) (sym (puts ∙ ap (with_figure_warnings policy (earlier ++ r ∷ []) shares old) lists)) (carried_at policy shares sound earlier r legal first_uses old keeps))
    legal (lists ∙ ap (λ (a : Option AccountName). warnings_after policy records r a old) sells) puts
