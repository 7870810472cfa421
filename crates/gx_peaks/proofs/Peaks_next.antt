-- Behind each record the table keeps the peaks over all records.
use Rattle.std.proofs.{Common.{◌≡◌, ℕ, ◌≤◌, Bool, true, false, cond, inl, inr, List, [], ◌∷◌, ◌++◌, length, refl, sym, ap, subst, ◌∙◌, arith}, lemmas.{Bool.{le-ltb, ltb-false}, Option.same_Some}}
use Rattle.std.specs.{Prelude.{Option, Some, None, is_some, option_and_then}, Option.option_map_or}
use Rattle.gx_units.specs.{Names.same_rule, declared.names.{AccountName.AccountName, RuleId.RuleId}}
use Rattle.gx_policy.specs.{declared.policy.PolicyData.PolicyData, People.account_named, Soundness.is_sound}
use Rattle.gx_history.specs.{declared.{live_order.LiveOrder.LiveOrder, «record».{RecordData.RecordData, Verdict.Verdict}}, Book.is_buy, Live.{live, live_numbered}, Verdicts.{Follows, IsLegal}}
use Rattle.gx_laws.proofs.Streams_next.{legal_before}
use Rattle.gx_records.specs.State.{limit_in_force}
use Rattle.gx_peaks.specs.{declared.{figure.Figure.Figure, table.{HeldPeak.HeldPeak, PeakTable.PeakTable}}, Figures.{amount, is_counted}, Keys.key_of, Noting.{Advances, AdvancesTo, AreHeld, IsHeld, IsOfOrder, IsOfSeller, IsOfSetting, Lags, held_under, peak_under}, Peaks.{IsPeakOf, is_over}, Raising.peak_at_zero, Touching.{gains_by, gains_of, seller, set_in, sets_limit}}
use Rattle.gx_peaks.proofs.{NewOrder_live.account_is_known, Figures_unraised.{counts_gain, counts_order, no_rise}, OnePeak_next.{still_is, whole}, Figures_same.{counts_it, counts_its_gain}, Limit_kept.limit_is_kept, Figure_sort.{Sort, amount_is, has_sort, sort_of}}

-- the account of a sell that is filled is one of the policy
pub gainer_is_known : {policy : PolicyData} {earlier : List RecordData} (account : AccountName) → is_sound policy ≡ true → IsLegal policy earlier → (v : Verdict) → gains_by (live policy earlier) v ≡ Some account
    → is_some (account_named policy account) ≡ true
gainer_is_known account sound legal Verdict.Granted h = cc
gainer_is_known account sound legal (Verdict.Denied rule) h = cc
gainer_is_known account sound legal (Verdict.Rested number) h = cc
gainer_is_known account sound legal (Verdict.Expired number) h = cc
gainer_is_known {policy} {earlier} account sound legal (Verdict.Filled f) h = at (live_numbered (live policy earlier) f.taker) refl h
  where
    by : (o : LiveOrder) (buys : Bool) → cond buys None (Some o.account) ≡ Some account → o.account ≡ account
    by o true k = cc
    by o false k = same_Some _ _ k

    at : (found : Option LiveOrder) → live_numbered (live policy earlier) f.taker ≡ found → option_and_then seller found ≡ Some account → is_some (account_named policy account) ≡ true
    at None e k = cc
    at (Some o) e k = ap (λ (a : AccountName). is_some (account_named policy a)) (sym (by o (is_buy o.terms.side) k)) ∙ account_is_known f.taker o sound legal e

-- no more than before, within the same limit
still_within : (before now : ℕ) (limit : Option ℕ) → now ≤ before → is_over before limit ≡ false → is_over now limit ≡ false
still_within before now None low h = refl
still_within before now (Some most) low h = let under = ltb-false most before h in le-ltb most now (omega (arith, under, low))

-- nothing is within each limit
pub none_is_within : (now : ℕ) (limit : Option ℕ) → now ≤ 0 → is_over now limit ≡ false
none_is_within now None low = refl
none_is_within now (Some most) low = le-ltb most now (omega (arith, low))

module _ (policy : PolicyData) (sound : is_sound policy ≡ true) (earlier : List RecordData) (r : RecordData) (legal : IsLegal policy (earlier ++ r ∷ [])) (first second third last : PeakTable)
    (held : AreHeld policy earlier first)
    (one : Advances policy earlier (earlier ++ r ∷ []) (IsOfOrder policy (live_numbered (live policy (earlier ++ r ∷ [])) r.number)) first second)
    (two : Advances policy earlier (earlier ++ r ∷ []) (IsOfSeller policy (gains_of policy earlier r)) second third)
    (three : Advances policy earlier (earlier ++ r ∷ []) (IsOfSetting policy (set_in r) last) third last) where
  abbrev records : List RecordData
  records = earlier ++ r ∷ []

  parts : IsLegal policy earlier × Follows policy (earlier, r)
  parts = legal_before earlier r legal

  module _ (f : Figure) (counted : is_counted policy f ≡ true) (s : Sort) (is : sort_of policy f ≡ Some s) where
    lags_first : Lags policy earlier records first f
    lags_first = inl (held.peaks f counted)

    lags_second : Lags policy earlier records second f
    lags_second = one.goes f counted lags_first

    lags_third : Lags policy earlier records third f
    lags_third = two.goes f counted lags_second

    lags_last : Lags policy earlier records last f
    lags_last = three.goes f counted lags_third

    -- it has not risen
    module _ (low : amount policy f records ≤ amount policy f earlier) where
      -- its limit is the same
      same_limit : sets_limit r f.rule ≡ false → Lags policy earlier records last f → IsHeld policy records last f
      same_limit kept (inr now) = now
      same_limit kept (inl before) =
          let limit : limit_in_force policy records f.rule ≡ limit_in_force policy earlier f.rule = limit_is_kept policy earlier r f.rule kept in
          still_is policy f.rule (amount policy f) earlier r (peak_under policy last (key_of policy f)) before low
          (λ within. ap (is_over (amount policy f records)) limit ∙ still_within (amount policy f earlier) (amount policy f records) (limit_in_force policy earlier f.rule) low within)

      -- nothing is kept of it, so it was 0 all the time
      never_kept : held_under last (key_of policy f) ≡ None → Lags policy earlier records last f → IsHeld policy records last f
      never_kept none (inr now) = now
      never_kept none (inl before) =
          let peak : peak_under policy last (key_of policy f) ≡ peak_at_zero (limit_in_force policy [] f.rule) =
          ap (λ (h : Option HeldPeak). option_map_or (λ (x : HeldPeak). x.peak) h (peak_at_zero (limit_in_force policy [] f.rule))) none in
          let nothing : amount policy f earlier ≤ 0 =
          subst (λ (h : List RecordData). amount policy f h ≤ 0) (whole earlier)
          ((subst (IsPeakOf policy f.rule (amount policy f) earlier) peak before).greatest.greatest (length earlier)) in
          still_is policy f.rule (amount policy f) earlier r (peak_under policy last (key_of policy f)) before low
          (λ within. none_is_within (amount policy f records) (limit_in_force policy records f.rule) (omega (arith, low, nothing)))

      -- its limit is set
      is_set : (set : Option RuleId) → set_in r ≡ set → option_map_or (λ (named : RuleId). same_rule named f.rule) set false ≡ true → IsHeld policy records last f
      is_set None e h = cc
      is_set (Some rule) e h = by (held_under last (key_of policy f)) refl
        where
          by : (found : Option HeldPeak) → held_under last (key_of policy f) ≡ found → IsHeld policy records last f
          by None k = never_kept k lags_last
          by (Some x) k = three.done f counted (subst (λ (set : Option RuleId). IsOfSetting policy set last f) (sym e) (record { of_rule = h; is_kept = ap is_some k })) lags_third

      by_limit : (b : Bool) → sets_limit r f.rule ≡ b → IsHeld policy records last f
      by_limit true e = is_set (set_in r) refl e
      by_limit false e = same_limit e lags_last

    -- no order and no gain that it counts
    untouched : option_map_or (counts_order s) (live_numbered (live policy records) r.number) false ≡ false → option_map_or (counts_gain s) (gains_of policy earlier r) false ≡ false → IsHeld policy records last f
    untouched none no_gains =
        let fall = no_rise policy earlier r parts.0 parts.1 s none no_gains in
        let now = amount_is policy f s is records in
        let before = amount_is policy f s is earlier in
        by_limit (omega (arith, fall, now, before)) (sets_limit r f.rule) refl

    by_gain : option_map_or (counts_order s) (live_numbered (live policy records) r.number) false ≡ false → (found : Option AccountName) → gains_of policy earlier r ≡ found → IsHeld policy records last f
    by_gain none None e = untouched none (ap (λ (a : Option AccountName). option_map_or (counts_gain s) a false) e)
    by_gain none (Some account) e = by (counts_gain s account) refl
      where
        by : (b : Bool) → counts_gain s account ≡ b → IsHeld policy records last f
        by false k = untouched none (ap (λ (a : Option AccountName). option_map_or (counts_gain s) a false) e ∙ k)
        by true k =
            three.stays f counted
            (two.done f counted
            (subst (λ (a : Option AccountName). IsOfSeller policy a f) (sym e) (counts_its_gain policy f s account is (gainer_is_known account sound parts.0 r.verdict e) k)) lags_second)

    by_order : (found : Option LiveOrder) → live_numbered (live policy records) r.number ≡ found → IsHeld policy records last f
    by_order None e = by_gain (ap (λ (o : Option LiveOrder). option_map_or (counts_order s) o false) e) (gains_of policy earlier r) refl
    by_order (Some o) e = by (counts_order s o) refl
      where
        by : (b : Bool) → counts_order s o ≡ b → IsHeld policy records last f
        by false k = by_gain (ap (λ (x : Option LiveOrder). option_map_or (counts_order s) x false) e ∙ k) (gains_of policy earlier r) refl
        by true k =
            three.stays f counted
            (two.stays f counted
            (one.done f counted (subst (λ (x : Option LiveOrder). IsOfOrder policy x f) (sym e) (counts_it policy f s o is (account_is_known r.number o sound legal e) k)) lags_first))

  all_held_at : AreHeld policy records last
  all_held_at = record {
    peaks = λ f counted. let sort = has_sort policy f counted in by_order f counted sort.0 sort.1 (live_numbered (live policy records) r.number) refl;
    theirs = three.theirs (two.theirs (one.theirs held.theirs));
  }

-- once the figures are noted that the last record can have raised, and those whose limit it set
pub all_held : {policy : PolicyData} {records earlier : List RecordData} (r : RecordData) (seller : Option AccountName) (first second third last : PeakTable) → is_sound policy ≡ true → IsLegal policy records
    → records ≡ earlier ++ r ∷ [] → AreHeld policy earlier first → seller ≡ gains_of policy earlier r
    → AdvancesTo policy records (IsOfOrder policy (live_numbered (live policy records) r.number)) first second → AdvancesTo policy records (IsOfSeller policy seller) second third
    → AdvancesTo policy records (IsOfSetting policy (set_in r) last) third last → AreHeld policy records last
all_held {policy} {records} {earlier} r seller first second third last sound legal whole held sells one two three =
    let P : List RecordData → Type 0 = λ h. IsLegal policy h → Advances policy earlier h (IsOfOrder policy (live_numbered (live policy h) r.number)) first second
    → Advances policy earlier h (IsOfSeller policy (gains_of policy earlier r)) second third → Advances policy earlier h (IsOfSetting policy (set_in r) last) third last → AreHeld policy h last in
    subst P (sym whole) (λ legal one two three. all_held_at policy sound earlier r legal first second third last held one two three) legal (one earlier r whole)
    (subst (λ (a : Option AccountName). Advances policy earlier records (IsOfSeller policy a) second third) sells (two earlier r whole)) (three earlier r whole)
