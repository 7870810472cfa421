-- Samples that were taken stay those of the day as it goes on.
use Rattle.std.proofs.{Common.{◌≡◌, ℕ, ◌+◌, ◌<◌, ◌≤◌, List, [], ◌∷◌, ◌++◌, fold, get_or, length, take, map, sym, ap, ◌∙◌, subst, suc, arith, refl}, Math.Seq.{take-length, take-suc}, lemmas.{Grind.flat_map-append, List.{append-nil, length-append, map-append, take-append-le, take_more, Sums.fold-append}, Option.{get_or_from_slice_get, slice_get_within}}}
use Rattle.std.specs.{Prelude.{Option, slice_get, Some, None}, List.AllByRecursion}
use Rattle.gx_units.proofs.Lists_hold.{all_next}
use Rattle.gx_policy.specs.declared.policy.{PolicyData.PolicyData, Stock.Stock}
use Rattle.gx_history.specs.declared.record.RecordData.{RecordData}
use Rattle.gx_records.specs.Watching.{earlier_of}
use Rattle.gx_report.specs.{declared.samples.{Samples.Samples, Seat.Seat}, Samples.{AreTaken, more_of, most_used, sample_of, samples_after, samples_at, used_in}}

-- so many, and one more
take_one_more : (counts : List ℕ) (taken count : ℕ) → slice_get counts taken ≡ Some count → take (taken + 1) counts ≡ take taken counts ++ count ∷ []
take_one_more counts taken count due =
    let same : taken + 1 ≡ suc taken = omega arith in
    ap (λ (n : ℕ). take n counts) same
    ∙ take-suc counts taken 0 (slice_get_within counts taken count due)
    ∙ ap (λ (last : ℕ). take taken counts ++ last ∷ []) (get_or_from_slice_get counts taken count 0 due)

-- samples of each seat after all records so far are those at one more count
pub one_more : {policy : PolicyData} (old new : Samples) {records : List RecordData} → slice_get old.counts.items old.taken ≡ Some (length records) → AreTaken policy old records
    → new.seats ≡ old.seats → new.counts ≡ old.counts → new.taken ≡ old.taken + 1 → new.list.items ≡ old.list.items ++ map (sample_of policy records) old.seats.items → AreTaken policy new records
one_more {policy} old new {records} due are seats counts one grown =
    let more : take new.taken new.counts.items ≡ take old.taken old.counts.items ++ length records ∷ [] =
    (λ i. take (one i) (counts i).items) ∙ take_one_more old.counts.items old.taken (length records) due in
    let last : samples_at policy old.seats.items records (length records ∷ []) ≡ map (sample_of policy records) old.seats.items =
    append-nil (samples_after policy old.seats.items records (length records)) ∙ ap (λ (rs : List RecordData). map (sample_of policy rs) old.seats.items) (take-length records) in
    record {
      taken =
          grown
          ∙ (λ i. are.taken i ++ sym last i)
          ∙ sym (flat_map-append (samples_after policy old.seats.items records) (take old.taken old.counts.items) (length records ∷ []))
          ∙ (λ i. samples_at policy (sym seats i).items records (sym more i));
      came = subst (AllByRecursion (λ (count : ℕ). count ≤ length records)) (sym more) (all_next (λ (count : ℕ). count ≤ length records) (take old.taken old.counts.items) (length records) are.came (omega arith));
    }

-- the day goes on behind so many records
samples_stay : (policy : PolicyData) (seats : List Seat) (earlier : List RecordData) (r : RecordData) (counts : List ℕ) → AllByRecursion (λ (count : ℕ). count ≤ length earlier) counts
    → samples_at policy seats (earlier ++ r ∷ []) counts ≡ samples_at policy seats earlier counts
samples_stay policy seats earlier r [] came = refl
samples_stay policy seats earlier r (count ∷ counts) came =
    λ i. map (sample_of policy (take-append-le count earlier (r ∷ []) came.0 i)) seats ++ samples_stay policy seats earlier r counts came.1 i

came_before : (earlier : List RecordData) (r : RecordData) (counts : List ℕ) → AllByRecursion (λ (count : ℕ). count ≤ length earlier) counts → AllByRecursion (λ (count : ℕ). count ≤ length (earlier ++ r ∷ [])) counts
came_before earlier r [] came = tt
came_before earlier r (count ∷ counts) came =
    let first = came.0 in
    (omega (arith, first, length-append earlier (r ∷ [])), came_before earlier r counts came.1)

goes_on : {policy : PolicyData} (samples : Samples) {earlier : List RecordData} (r : RecordData) → AreTaken policy samples earlier → AreTaken policy samples (earlier ++ r ∷ [])
goes_on {policy} samples {earlier} r are = record {
  taken = are.taken ∙ sym (samples_stay policy samples.seats.items earlier r (take samples.taken samples.counts.items) are.came);
  came = came_before earlier r (take samples.taken samples.counts.items) are.came;
}

-- what was taken in front of the last record stays so behind it
pub stay_taken : {policy : PolicyData} (samples : Samples) (records : List RecordData) (r : RecordData) → records ≡ earlier_of records ++ r ∷ [] → AreTaken policy samples (earlier_of records) → AreTaken policy samples records
stay_taken {policy} samples records r last are = subst (AreTaken policy samples) (sym last) (goes_on samples r are)

-- the most that is used in one more stock
pub most_more : (policy : PolicyData) (records : List RecordData) (seat : Seat) (stocks : List Stock) (i : ℕ) (other : Stock) (before after there : Option ℕ) → i < length stocks
    → before ≡ most_used policy records seat (take i stocks) → there ≡ used_in policy records seat (get_or stocks i other).name → after ≡ more_of before there
    → after ≡ most_used policy records seat (take (i + 1) stocks)
most_more policy records seat stocks i other before after there within was is now =
    now
    ∙ (λ j. more_of (was j) (is j))
    ∙ sym (fold-append more_of None (map used (take i stocks)) (used (get_or stocks i other) ∷ []))
    ∙ sym (ap (fold more_of None) (map-append used (take i stocks) (get_or stocks i other ∷ [])))
    ∙ sym (ap (most_used policy records seat) (take_more stocks i other within))
  where
    used : Stock → Option ℕ
    used s = used_in policy records seat s.name
