-- What one more record makes of a peak.
use Rattle.std.proofs.{Common.{◌≡◌, ℕ, ◌+◌, ◌<◌, ◌≤◌, Bool, true, false, cond, not, List, [], ◌∷◌, ◌++◌, length, take, refl, sym, ap, subst, ◌∙◌, arith}, lemmas.{Bool.{leb-true, leb-false, ltb-true, ltb-false, le-ltb}, List.{length-append, take_all, take-append-le}}}
use Rattle.std.specs.Prelude.{Option, Some, None, ◌||◌, nat_lt, nat_le, is_some}
use Rattle.gx_units.specs.declared.names.RuleId.{RuleId}
use Rattle.gx_policy.specs.declared.policy.PolicyData.{PolicyData}
use Rattle.gx_history.specs.{declared.record.RecordData.RecordData, Verdicts.last_moment}
use Rattle.gx_records.specs.State.{limit_in_force}
use Rattle.gx_peaks.specs.{declared.peak.{Peak.Peak, Reading.Reading}, Peaks.{IsFirstPast, IsPastFrom, IsPeak, IsPeakOf, is_past, limit_behind}, Raising.{passed_at, reading_of, taken_in}}

-- all records but the last, as many as these are, or all of them
one_more : (records : List RecordData) (r : RecordData) → length (records ++ r ∷ []) ≡ length records + 1
one_more records r = length-append records (r ∷ [])

pub front : (n : ℕ) (records : List RecordData) (r : RecordData) → n ≤ length records → take n (records ++ r ∷ []) ≡ take n records
front n records r few = take-append-le n records (r ∷ []) few

pub whole : (records : List RecordData) → take (length records) records ≡ records
whole records = take_all (length records) records (omega arith)

-- what holds of each front of the earlier records, and of all, holds of each front
each_front : (P : List RecordData → Type 0) (records : List RecordData) (r : RecordData) → ((n : ℕ) → P (take n records)) → P (records ++ r ∷ []) → (n : ℕ) → P (take n (records ++ r ∷ []))
each_front P records r earlier now n = by (nat_le n (length records)) refl
  where
    by : (b : Bool) → nat_le n (length records) ≡ b → P (take n (records ++ r ∷ []))
    by true e = subst P (sym (front n records r (leb-true n (length records) e))) (earlier n)
    by false e =
        let many = leb-false n (length records) e in
        let more = one_more records r in
        subst P (sym (take_all n (records ++ r ∷ []) (omega (arith, many, more)))) now

module _ (figure : List RecordData → ℕ) (records : List RecordData) (r : RecordData) where
  -- no more than before
  peak_stays : (used number : ℕ) → IsPeak figure records used number → figure (records ++ r ∷ []) ≤ used → IsPeak figure (records ++ r ∷ []) used number
  peak_stays used number is low =
      let more = one_more records r in
      let few : number ≤ length records = is.within in
      record {
        within = omega (arith, more, few);
        attained = ap figure (front number records r few) ∙ is.attained;
        greatest = each_front (λ (h : List RecordData). figure h ≤ used) records r is.greatest low;
        first = λ n below. subst (λ (h : List RecordData). figure h < used) (sym (front n records r (omega (arith, below, few)))) (is.first n below);
      }

  -- more than ever before
  peak_rises : (used number : ℕ) → IsPeak figure records used number → used < figure (records ++ r ∷ []) → IsPeak figure (records ++ r ∷ []) (figure (records ++ r ∷ [])) (length (records ++ r ∷ []))
  peak_rises used number is high =
      let more = one_more records r in
      record {
        within = omega arith;
        attained = ap figure (whole (records ++ r ∷ []));
        greatest = each_front (λ (h : List RecordData). figure h ≤ figure (records ++ r ∷ [])) records r (λ n. let low = is.greatest n in omega (arith, low, high)) (omega arith);
        first = λ n below.
            let low = is.greatest n in
            subst (λ (h : List RecordData). figure h < figure (records ++ r ∷ [])) (sym (front n records r (omega (arith, below, more)))) (omega (arith, low, high));
      }

  module _ (limit : List RecordData → Option ℕ) where
    -- it was past before, at the same record
    past_stays : (number : ℕ) → IsPastFrom figure limit records number → IsPastFrom figure limit (records ++ r ∷ []) number
    past_stays number is =
        let more = one_more records r in
        let few : number ≤ length records = is.within in
        record {
          within = omega (arith, more, few);
          is_so = ap (is_past figure limit) (front number records r few) ∙ is.is_so;
          none_earlier = λ n below. ap (is_past figure limit) (front n records r (omega (arith, below, few))) ∙ is.none_earlier n below;
        }

    -- it never was, and is not
    never_past : ((n : ℕ) → is_past figure limit (take n records) ≡ false) → is_past figure limit (records ++ r ∷ []) ≡ false → (n : ℕ) → is_past figure limit (take n (records ++ r ∷ [])) ≡ false
    never_past never not_now = each_front (λ (h : List RecordData). is_past figure limit h ≡ false) records r never not_now

    -- it never was, and is
    past_begins : ((n : ℕ) → is_past figure limit (take n records) ≡ false) → is_past figure limit (records ++ r ∷ []) ≡ true → IsPastFrom figure limit (records ++ r ∷ []) (length (records ++ r ∷ []))
    past_begins never now =
        let more = one_more records r in
        record {
          within = omega arith;
          is_so = ap (is_past figure limit) (whole (records ++ r ∷ [])) ∙ now;
          none_earlier = λ n below. ap (is_past figure limit) (front n records r (omega (arith, below, more))) ∙ never n;
        }

    -- whichever it was
    past_unless : (before : Option ℕ) → IsFirstPast figure limit records before → is_past figure limit (records ++ r ∷ []) ≡ false → IsFirstPast figure limit (records ++ r ∷ []) before
    past_unless None never not_now = never_past never not_now
    past_unless (Some number) is not_now = past_stays number is

module _ (policy : PolicyData) (rule : RuleId) (figure : List RecordData → ℕ) where
  -- the reading behind these records
  abbrev pub now_of : List RecordData → Reading
  now_of records = reading_of policy records rule (figure records)

  -- a peak but for where it was first past
  record IsTop (records : List RecordData) (used number time : ℕ) (most : Option ℕ) : Type 0 where
    greatest : IsPeak figure records used number
    limit : most ≡ limit_in_force policy (take number records) rule
    moment : time ≡ last_moment (take number records)

  with_first : (records : List RecordData) (used number moment : ℕ) (limit past : Option ℕ) → IsTop records used number moment limit → IsFirstPast figure (limit_behind policy rule) records past
      → IsPeakOf policy rule figure records (record { used = used; number = number; moment = moment; limit = limit; first_past = past })
  with_first records used number moment limit past is first = record { greatest = is.greatest; limit = is.limit; moment = is.moment; first_past = first }

  module _ (records : List RecordData) (r : RecordData) where
    top_rises : (p : Peak) → IsPeakOf policy rule figure records p → p.used < figure (records ++ r ∷ [])
        → IsTop (records ++ r ∷ []) (figure (records ++ r ∷ [])) (length (records ++ r ∷ [])) (last_moment (records ++ r ∷ [])) (limit_in_force policy (records ++ r ∷ []) rule)
    top_rises p is high = record {
      greatest = peak_rises figure records r p.used p.number is.greatest high;
      limit = ap (limit_behind policy rule) (sym (whole (records ++ r ∷ [])));
      moment = ap last_moment (sym (whole (records ++ r ∷ [])));
    }

    top_stays : (p : Peak) → IsPeakOf policy rule figure records p → figure (records ++ r ∷ []) ≤ p.used → IsTop (records ++ r ∷ []) p.used p.number p.moment p.limit
    top_stays p is low = record {
      greatest = peak_stays figure records r p.used p.number is.greatest low;
      limit = is.limit ∙ ap (limit_behind policy rule) (sym (front p.number records r is.greatest.within));
      moment = is.moment ∙ ap last_moment (sym (front p.number records r is.greatest.within));
    }

    passed_is : (used number moment : ℕ) (limit past : Option ℕ) → IsTop (records ++ r ∷ []) used number moment limit → IsFirstPast figure (limit_behind policy rule) records past
        → IsPeakOf policy rule figure (records ++ r ∷ []) (passed_at (now_of (records ++ r ∷ [])) (record { used = used; number = number; moment = moment; limit = limit; first_past = past }))
    passed_is used number moment limit (Some first) is past = with_first (records ++ r ∷ []) used number moment limit (Some first) is (past_stays figure records r (limit_behind policy rule) first past)
    passed_is used number moment limit None is never = by (is_past figure (limit_behind policy rule) (records ++ r ∷ [])) refl
      where
        by : (b : Bool) → is_past figure (limit_behind policy rule) (records ++ r ∷ []) ≡ b
            → IsPeakOf policy rule figure (records ++ r ∷ [])
            (cond (not b) (record { used = used; number = number; moment = moment; limit = limit; first_past = None })
            (record { used = used; number = number; moment = moment; limit = limit; first_past = Some (length (records ++ r ∷ [])) }))
        by true e = with_first (records ++ r ∷ []) used number moment limit (Some (length (records ++ r ∷ []))) is (past_begins figure records r (limit_behind policy rule) never e)
        by false e = with_first (records ++ r ∷ []) used number moment limit None is (never_past figure records r (limit_behind policy rule) never e)

    -- it is read behind one more record
    pub taken_in_is : (p : Peak) → IsPeakOf policy rule figure records p → IsPeakOf policy rule figure (records ++ r ∷ []) (taken_in (now_of (records ++ r ∷ [])) p)
    taken_in_is p is = by (nat_lt p.used (figure (records ++ r ∷ []))) refl
      where
        by : (b : Bool) → nat_lt p.used (figure (records ++ r ∷ [])) ≡ b
            → IsPeakOf policy rule figure (records ++ r ∷ [])
            (passed_at (now_of (records ++ r ∷ []))
            (cond b
            (record {
              used = figure (records ++ r ∷ []);
              number = length (records ++ r ∷ []);
              moment = last_moment (records ++ r ∷ []);
              limit = limit_in_force policy (records ++ r ∷ []) rule;
              first_past = p.first_past;
            })
            p))
        by true e =
            passed_is (figure (records ++ r ∷ [])) (length (records ++ r ∷ [])) (last_moment (records ++ r ∷ [])) (limit_in_force policy (records ++ r ∷ []) rule) p.first_past
            (top_rises p is (ltb-true p.used (figure (records ++ r ∷ [])) e)) is.first_past
        by false e = passed_is p.used p.number p.moment p.limit p.first_past (top_stays p is (ltb-false p.used (figure (records ++ r ∷ [])) e)) is.first_past

    -- it is not read, but it has not risen, and is past no limit that it was not past before
    pub still_is : (p : Peak) → IsPeakOf policy rule figure records p → figure (records ++ r ∷ []) ≤ figure records
        → (is_past figure (limit_behind policy rule) records ≡ false → is_past figure (limit_behind policy rule) (records ++ r ∷ []) ≡ false)
        → IsPeakOf policy rule figure (records ++ r ∷ []) p
    still_is p is low still =
        with_first (records ++ r ∷ []) p.used p.number p.moment p.limit p.first_past (top_stays p is lower) (by p.first_past is.first_past)
      where
        lower : figure (records ++ r ∷ []) ≤ p.used
        lower =
            let so_far : figure records ≤ p.used = subst (λ (h : List RecordData). figure h ≤ p.used) (whole records) (is.greatest.greatest (length records)) in
            omega (arith, so_far, low)

        by : (past : Option ℕ) → IsFirstPast figure (limit_behind policy rule) records past → IsFirstPast figure (limit_behind policy rule) (records ++ r ∷ []) past
        by (Some first) past = past_stays figure records r (limit_behind policy rule) first past
        by None never =
            never_past figure records r (limit_behind policy rule) never
            (still (ap (is_past figure (limit_behind policy rule)) (sym (whole records)) ∙ never (length records)))

  -- it is read once more
  pub taken_again : (records : List RecordData) (p : Peak) → IsPeakOf policy rule figure records p → IsPeakOf policy rule figure records (taken_in (now_of records) p)
  taken_again records p is = by (nat_lt p.used (figure records)) (le-ltb p.used (figure records) lower) p.first_past is.first_past refl
    where
      lower : figure records ≤ p.used
      lower = subst (λ (h : List RecordData). figure h ≤ p.used) (whole records) (is.greatest.greatest (length records))

      same : (past : Option ℕ) → IsFirstPast figure (limit_behind policy rule) records past → p.first_past ≡ past → passed_at (now_of records) p ≡ p
      same (Some first) past e = ap (λ (o : Option ℕ). cond (is_some o || not (is_past figure (limit_behind policy rule) records)) p (record { used = p.used; number = p.number; moment = p.moment; limit = p.limit; first_past = Some (length records) })) e
      same None never e =
          let not_now : is_past figure (limit_behind policy rule) records ≡ false = ap (is_past figure (limit_behind policy rule)) (sym (whole records)) ∙ never (length records) in
          ap (λ (b : Bool). cond (is_some p.first_past || not b) p (record { used = p.used; number = p.number; moment = p.moment; limit = p.limit; first_past = Some (length records) })) not_now
          ∙ ap (λ (o : Option ℕ). cond (is_some o || true) p (record { used = p.used; number = p.number; moment = p.moment; limit = p.limit; first_past = Some (length records) })) e

      by : (b : Bool) → b ≡ false → (past : Option ℕ) → IsFirstPast figure (limit_behind policy rule) records past → p.first_past ≡ past
          → IsPeakOf policy rule figure records
          (passed_at (now_of records)
          (cond b
          (record { used = figure records; number = length records; moment = last_moment records; limit = limit_in_force policy records rule; first_past = p.first_past })
          p))
      by true e past first same_past = absurd (ends e)
        where
          ends : true ≡ false → ⊥
          ends h = cc
      by false e past first same_past = subst (IsPeakOf policy rule figure records) (sym (same past first same_past)) is
