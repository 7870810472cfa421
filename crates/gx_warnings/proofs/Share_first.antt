-- One more record, and where a share was first passed.
use Rattle.std.proofs.{Common.{◌≡◌, ℕ, ◌*◌, ◌+◌, ◌≤◌, Bool, true, false, List, [], ◌∷◌, ◌++◌, length, take, refl, sym, ap, ◌∙◌, arith}, lemmas.{Bool.{le-ltb, leb-true, leb-false}, List.{length-append, take_all}}}
use Rattle.std.specs.Prelude.{Option, Some, None, ◌&&◌, nat_le}
use Rattle.gx_policy.specs.declared.policy.PolicyData.{PolicyData}
use Rattle.gx_history.specs.declared.record.RecordData.{RecordData}
use Rattle.gx_peaks.specs.declared.figure.Figure.{Figure}
use Rattle.gx_peaks.proofs.OnePeak_next.{front, whole}
use Rattle.gx_warnings.specs.{declared.warning.Warning.Warning, Keeping.IsKnown, Warnings.{IsFirstPassed, is_passed, passes}}

-- what is 0 passes nothing
pub none_short : (share now : ℕ) (limit : Option ℕ) → now ≤ 0 → passes share now limit ≡ false
none_short share now None low = refl
none_short share now (Some most) low = ap (λ (b : Bool). b && nat_le (share * most) (now * 100)) (le-ltb 0 now low)

module _ (policy : PolicyData) (figure : Figure) (share : ℕ) (records : List RecordData) (r : RecordData) where
  one_more : length (records ++ r ∷ []) ≡ length records + 1
  one_more = length-append records (r ∷ [])

  -- it was passed before, at the same record
  pub first_stays : (number : ℕ) → IsFirstPassed policy figure share records number → IsFirstPassed policy figure share (records ++ r ∷ []) number
  first_stays number is =
      let more = one_more in
      let few : number ≤ length records = is.within in
      record {
        within = omega (arith, more, few);
        is_so = ap (is_passed policy figure share) (front number records r few) ∙ is.is_so;
        none_earlier = λ n below. ap (is_passed policy figure share) (front n records r (omega (arith, below, few))) ∙ is.none_earlier n below;
      }

  -- it never was, and is not
  pub never_goes_on : ((n : ℕ) → is_passed policy figure share (take n records) ≡ false) → is_passed policy figure share (records ++ r ∷ []) ≡ false
      → (n : ℕ) → is_passed policy figure share (take n (records ++ r ∷ [])) ≡ false
  never_goes_on never not_now n = by (nat_le n (length records)) refl
    where
      by : (b : Bool) → nat_le n (length records) ≡ b → is_passed policy figure share (take n (records ++ r ∷ [])) ≡ false
      by true e = ap (is_passed policy figure share) (front n records r (leb-true n (length records) e)) ∙ never n
      by false e =
          let many = leb-false n (length records) e in
          let more = one_more in
          ap (is_passed policy figure share) (take_all n (records ++ r ∷ []) (omega (arith, many, more))) ∙ not_now

  -- it never was, and is
  pub begins : ((n : ℕ) → is_passed policy figure share (take n records) ≡ false) → is_passed policy figure share (records ++ r ∷ []) ≡ true
      → IsFirstPassed policy figure share (records ++ r ∷ []) (length (records ++ r ∷ []))
  begins never now =
      let more = one_more in
      record {
        within = omega arith;
        is_so = ap (is_passed policy figure share) (whole (records ++ r ∷ [])) ∙ now;
        none_earlier = λ n below. ap (is_passed policy figure share) (front n records r (omega (arith, below, more))) ∙ never n;
      }

  -- what was known is known, where it is not passed now, or was before
  pub known_goes_on : (found : Option Warning) → IsKnown policy figure share records found → is_passed policy figure share (records ++ r ∷ []) ≡ false → IsKnown policy figure share (records ++ r ∷ []) found
  known_goes_on None never not_now = never_goes_on never not_now
  known_goes_on (Some w) is not_now = first_stays w.reading.number is

-- behind all records
pub never_now : (policy : PolicyData) (figure : Figure) (share : ℕ) (records : List RecordData) → ((n : ℕ) → is_passed policy figure share (take n records) ≡ false) → is_passed policy figure share records ≡ false
never_now policy figure share records never = ap (is_passed policy figure share) (sym (whole records)) ∙ never (length records)
