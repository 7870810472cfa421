-- What a watcher knows behind one more record.
use Rattle.std.proofs.Common.{◌≡◌, ℕ, ◌≤◌, Bool, true, false, List, [], ◌∷◌, ◌++◌, length, ap, sym, ◌∙◌, subst}
use Rattle.std.specs.Prelude.{Option, Some, None, option_to_list}
use Rattle.gx_policy.specs.declared.policy.PolicyData.{PolicyData}
use Rattle.gx_history.specs.{declared.record.{RecordData.RecordData, Verdict.Verdict}, Live.{live, waiting}, Orders.orders, Verdicts.{day_limit, IsLegal}}
use Rattle.gx_access_gate.specs.Gates.{GateData}
use Rattle.gx_endings.specs.Endings.{Grows}
use Rattle.gx_whatif.specs.{declared.change.VerdictChange.VerdictChange, Answering.IsFilled, Following.{AreAllOf, AreRedone, IsFollowed, IsSoFar}, Redone.{Redone, is_at_rest, records_behind, redo_where, the_day, redone_under}, Differing.{change_where, verdict_changes, verdict_behind}}
use Rattle.gx_whatif.proofs.OtherDay_next.{changes_next, still_full, under_next}

-- the day under the gate's policy so far
is_the_day : {old : PolicyData} (gate : GateData) (sources : List ℕ) (found : List VerdictChange) {records : List RecordData} → AreRedone old gate sources found records → the_day gate sources ≡ redone_under old gate.policy records
is_the_day gate sources found {records} so = λ i. record { records = so.records_are i; sources = so.sources_are i }

-- the next record was followed
module _ (meant : Option PolicyData) (old : PolicyData) (gate after : GateData) (sources more numbers left : List ℕ) (found grow : List VerdictChange) (earlier : List RecordData) (r : RecordData) (at_rest : Bool) (told : Option Verdict) where
  abbrev day : Redone
  day = redone_under old gate.policy earlier

  day_is : AreRedone old gate sources found earlier → at_rest ≡ is_at_rest old (earlier ++ r ∷ []) → redo_where at_rest gate.policy (the_day gate sources) r ≡ the_day after more
      → the_day after more ≡ redone_under old gate.policy (earlier ++ r ∷ [])
  day_is so rests made =
      sym made
      ∙ ap (λ (d : Redone). redo_where at_rest gate.policy d r) (is_the_day gate sources found so)
      ∙ ap (λ (b : Bool). redo_where b gate.policy day r) rests
      ∙ sym (under_next old gate.policy earlier r)

  changes_are : AreRedone old gate sources found earlier → told ≡ verdict_behind gate.policy (the_day gate sources) r.step → Grows found (change_where r told) grow
      → grow ≡ verdict_changes old gate.policy (earlier ++ r ∷ [])
  changes_are so is grows =
      grows
      ∙ ap (λ (list : List VerdictChange). list ++ option_to_list (change_where r told)) so.changes_are
      ∙ ap (λ (t : Option Verdict). verdict_changes old gate.policy earlier ++ option_to_list (change_where r t)) (is ∙ ap (λ (d : Redone). verdict_behind gate.policy d r.step) (is_the_day gate sources found so))
      ∙ sym (changes_next old gate.policy earlier r)

  redone : AreRedone old gate sources found earlier → at_rest ≡ is_at_rest old (earlier ++ r ∷ []) → redo_where at_rest gate.policy (the_day gate sources) r ≡ the_day after more
      → told ≡ verdict_behind gate.policy (the_day gate sources) r.step → Grows found (change_where r told) grow → after.policy ≡ gate.policy
      → AreRedone old after more grow (earlier ++ r ∷ [])
  redone so rests made is grows same =
      let whole = day_is so rests made in
      subst (λ (p : PolicyData). AreRedone old (record { policy = p; records = after.records }) more grow (earlier ++ r ∷ [])) (sym same)
      (record {
        records_are = ap (λ (d : Redone). d.records) whole;
        sources_are = ap (λ (d : Redone). d.sources) whole;
        changes_are = changes_are so is grows;
      })

  full_now : AreRedone old gate sources found earlier → at_rest ≡ is_at_rest old (earlier ++ r ∷ []) → day_limit ≤ length (records_behind at_rest gate.policy gate.records r)
      → IsFilled old gate.policy (earlier ++ r ∷ [])
  full_now so rests full =
      subst (λ (d : Redone). day_limit ≤ length d.records) (sym (under_next old gate.policy earlier r))
      (subst (λ (b : Bool). day_limit ≤ length (records_behind b gate.policy day.records r)) rests
      (subst (λ (d : Redone). day_limit ≤ length (records_behind at_rest gate.policy d.records r)) (is_the_day gate sources found so) full))

abbrev far : PolicyData → GateData → List ℕ → List VerdictChange → List RecordData → Bool → Type 0
far old gate sources found records full = IsSoFar full old gate sources found records

-- where the day is made again, it is so one record further
pub followed_on : (meant : Option PolicyData) (full : Bool) {old : PolicyData} (gate after : GateData) (sources more numbers left : List ℕ) (found grow : List VerdictChange) (records : List RecordData) {earlier : List RecordData} (r : RecordData) (at_rest : Bool) (told : Option Verdict)
    → full ≡ false → records ≡ earlier ++ r ∷ [] → IsFollowed meant full old gate sources numbers found earlier → AreAllOf old records left → at_rest ≡ is_at_rest old records
    → after.policy ≡ gate.policy
    → redo_where at_rest gate.policy (the_day gate sources) r ≡ the_day after more
    → told ≡ verdict_behind gate.policy (the_day gate sources) r.step → Grows found (change_where r told) grow
    → IsFollowed meant full old after more left grow records
followed_on meant full {old} gate after sources more numbers left found grow records {earlier} r at_rest told goes last so all rests same made is grows =
    record {
      policy_is = so.policy_is ∙ ap (λ (p : PolicyData). Some p) (sym same);
      all_waiting = all;
      so_far =
          subst (far old after more grow records) (sym goes)
          (subst (AreRedone old after more grow) (sym last)
          (redone meant old gate after sources more numbers left found grow earlier r at_rest told
          (subst (far old gate sources found earlier) goes so.so_far)
          (subst (λ (rs : List RecordData). at_rest ≡ is_at_rest old rs) last rests) made is grows same));
    }

-- where the day is full already
pub followed_full : (meant : Option PolicyData) (full : Bool) {old : PolicyData} (gate : GateData) (sources numbers left : List ℕ) (found : List VerdictChange) (records : List RecordData) {earlier : List RecordData} (r : RecordData)
    → full ≡ true → records ≡ earlier ++ r ∷ [] → IsFollowed meant full old gate sources numbers found earlier → AreAllOf old records left
    → IsFollowed meant full old gate sources left found records
followed_full meant full {old} gate sources numbers left found records {earlier} r goes last so all =
    record {
      policy_is = so.policy_is;
      all_waiting = all;
      so_far =
          subst (far old gate sources found records) (sym goes)
          (subst (IsFilled old gate.policy) (sym last)
          (still_full old gate.policy earlier r day_limit (subst (far old gate sources found earlier) goes so.so_far)));
    }

-- and where it is now
pub followed_filled : (meant : Option PolicyData) (full : Bool) {old : PolicyData} (gate after : GateData) (sources more numbers left : List ℕ) (found : List VerdictChange) (records : List RecordData) {earlier : List RecordData} (r : RecordData) (at_rest : Bool)
    → full ≡ false → records ≡ earlier ++ r ∷ [] → IsFollowed meant full old gate sources numbers found earlier → AreAllOf old records left → at_rest ≡ is_at_rest old records
    → after.policy ≡ gate.policy
    → day_limit ≤ length (records_behind at_rest gate.policy gate.records r)
    → IsFollowed meant true old after more left found records
followed_filled meant full {old} gate after sources more numbers left found records {earlier} r at_rest goes last so all rests same filled =
    record {
      policy_is = so.policy_is ∙ ap (λ (p : PolicyData). Some p) (sym same);
      all_waiting = all;
      so_far =
          subst (λ (p : PolicyData). IsFilled old p records) (sym same)
          (subst (IsFilled old gate.policy) (sym last)
          (full_now meant old gate after sources more numbers left found found earlier r at_rest None
          (subst (far old gate sources found earlier) goes so.so_far)
          (subst (λ (rs : List RecordData). at_rest ≡ is_at_rest old rs) last rests) filled));
    }

-- before any record
pub begun : (meant : Option PolicyData) (old : PolicyData) (gate : GateData) (sources numbers : List ℕ) (found : List VerdictChange) (other : PolicyData)
    → meant ≡ Some other → gate.policy ≡ other → gate.records ≡ [] → sources ≡ 0 ∷ [] → numbers ≡ [] → found ≡ [] → IsFollowed meant false old gate sources numbers found []
unfolding redone_under waiting live orders
begun meant old gate sources numbers found other is same none first no_number no_change =
    record {
      policy_is = is ∙ ap (λ (p : PolicyData). Some p) (sym same);
      all_waiting = tt;
      so_far = record { records_are = none; sources_are = first; changes_are = no_change };
    }

some_policy : (a b : PolicyData) → Some a ≡ Some b → a ≡ b
some_policy a b e = cc

-- what was made is a legal day, as the gate's records are
pub made_legal : (meant : Option PolicyData) (full : Bool) (old other : PolicyData) (gate : GateData) (sources numbers : List ℕ) (found : List VerdictChange) (records : List RecordData)
    → IsFollowed meant full old gate sources numbers found records → full ≡ false → meant ≡ Some other → IsLegal gate.policy gate.records → IsLegal other (redone_under old other records).records
made_legal meant full old other gate sources numbers found records so goes is legal =
    let made : AreRedone old gate sources found records = subst (far old gate sources found records) goes so.so_far in
    subst (λ (p : PolicyData). IsLegal p (redone_under old p records).records) (some_policy gate.policy other (sym so.policy_is ∙ is))
    (subst (IsLegal gate.policy) made.records_are legal)
