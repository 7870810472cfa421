-- How far the records of a day are followed under another policy.
use Rattle.std.specs.{Prelude.{◌≡◌, ◌==◌, ℕ, Bool, true, false, IsTrue, List, Option, Some}, List.{AllByRecursion, list_any}, Option.option_map_or}
use Rattle.gx_policy.specs.declared.policy.PolicyData.{PolicyData}
use Rattle.gx_history.specs.{declared.{live_order.LiveOrder.LiveOrder, «record».RecordData.RecordData}, Live.{live_numbered, waiting}}
use Rattle.gx_access_gate.specs.Gates.{GateData}
use Rattle.gx_whatif.specs.{declared.change.VerdictChange.VerdictChange, Answering.IsFilled, Differing.verdict_changes, Redone.redone_under}

-- the live order of this number waits
abbrev pub waits_numbered : List LiveOrder → ℕ → Bool
waits_numbered orders number = option_map_or (λ (o : LiveOrder). o.waits) (live_numbered orders number) false

-- each order that waits has one of these numbers
abbrev pub AreAllOf : PolicyData → List RecordData → List ℕ → Type 0
AreAllOf policy records numbers = AllByRecursion (λ (o : LiveOrder). IsTrue (list_any (λ n. n == o.number) numbers)) (waiting policy records)

-- the gate and the sources are the day that the gate's policy makes of the steps of these records, and these are the verdict_changes
pub record AreRedone (old : PolicyData) (gate : GateData) (sources : List ℕ) (found : List VerdictChange) (records : List RecordData) : Type 0 where
  pub records_are : gate.records ≡ (redone_under old gate.policy records).records
  pub sources_are : sources ≡ (redone_under old gate.policy records).sources
  pub changes_are : found ≡ verdict_changes old gate.policy records

-- so far, unless the day under the gate's policy is full
abbrev pub IsSoFar : Bool → PolicyData → GateData → List ℕ → List VerdictChange → List RecordData → Type 0
IsSoFar true old gate sources found records = IsFilled old gate.policy records
IsSoFar false old gate sources found records = AreRedone old gate sources found records

-- the gate's policy is the one that is meant; so far all is made again, or its day is full; and these are numbers of all
-- orders that wait in the day
pub record IsFollowed (meant : Option PolicyData) (full : Bool) (old : PolicyData) (gate : GateData) (sources numbers : List ℕ) (found : List VerdictChange) (records : List RecordData) : Type 0 where
  pub policy_is : meant ≡ Some gate.policy
  pub all_waiting : AreAllOf old records numbers
  pub so_far : IsSoFar full old gate sources found records
