-- A summary that follows a gate's records.
use Rattle.std.proofs.{Common.{◌≡◌, ℕ, ◌<◌, ◌^◌, List, [], length, take, drop, min, sym, ap, subst, arith}, lemmas.List.{length-take, take-append-drop, take_all}}
use Rattle.gx_policy.specs.declared.policy.PolicyData.{PolicyData}
use Rattle.gx_history.specs.declared.record.RecordData.{RecordData}
use Rattle.gx_overview.specs.Accounts.{capped_count}
use Rattle.gx_board.specs.{declared.{counts.Counts.Counts, summary.Summary.Summary}, Summaries.{FollowsSummary, IsSummary, IsSummaryBehind, Stays}}

counted_records : Counts → ℕ
counted_records c = c.records

-- a summary of the first of the records counts as many as these are
count_is : {policy : PolicyData} (records : List RecordData) (m : ℕ) (d : Summary) → length records < 2 ^ 63 → IsSummary policy (take m records) d → d.counts.records ≡ min m (length records)
unfolding counted_records
count_is records m d small is =
    let long = length-take m records in
    let told : d.counts.records ≡ capped_count (length (take m records)) = ap counted_records is.counted.counts in
    omega (arith, long, told)

-- with all that come behind them
pub all_followed : {policy : PolicyData} {records : List RecordData} (old new : Summary) → IsSummaryBehind policy records old → FollowsSummary (drop old.counts.records records) old new → IsSummary policy records new
all_followed {policy} {records} old new was follows =
    subst (λ (some : List RecordData). IsSummary policy some new) (take-append-drop old.counts.records records) (follows policy (take old.counts.records records) was.first)

-- one of all of them is behind them
pub behind_whole : {policy : PolicyData} {records : List RecordData} (d : Summary) → length records < 2 ^ 63 → IsSummary policy records d → IsSummaryBehind policy records d
unfolding counted_records
behind_whole {policy} {records} d small is =
    let told : d.counts.records ≡ capped_count (length records) = ap counted_records is.counted.counts in
    record {
      few = omega (arith, told, small);
      first = subst (λ (some : List RecordData). IsSummary policy some d) (sym (take_all d.counts.records records (omega (arith, told, small)))) is;
    }

-- and one that stays is behind the same
pub behind_still : {policy : PolicyData} {records : List RecordData} (old new : Summary) → length records < 2 ^ 63 → IsSummaryBehind policy records old → Stays old new → IsSummaryBehind policy records new
behind_still {policy} {records} old new small was stays =
    let is = stays policy (take old.counts.records records) was.first in
    let same : new.counts.records ≡ old.counts.records = omega (arith, count_is records old.counts.records new small is, was.few) in
    record {
      few = omega (arith, same, was.few);
      first = subst (λ (some : List RecordData). IsSummary policy some new) (ap (λ (k : ℕ). take k records) (sym same)) is;
    }

-- one of no record is behind none
pub begins : (policy : PolicyData) (d : Summary) → IsSummary policy [] d → IsSummaryBehind policy [] d
unfolding counted_records
begins policy d is =
    let none : d.counts.records ≡ 0 = ap counted_records is.counted.counts in
    record {
      few = omega (arith, none);
      first = subst (λ (some : List RecordData). IsSummary policy some d) (ap (λ (k : ℕ). take k []) (sym none)) is;
    }
