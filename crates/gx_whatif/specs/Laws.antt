-- What is so of every legal day.
use Rattle.std.specs.Prelude.{◌≡◌, List, []}
use Rattle.gx_policy.specs.declared.policy.PolicyData.{PolicyData}
use Rattle.gx_history.specs.{declared.record.RecordData.RecordData, Verdicts.IsLegal}
use Rattle.gx_whatif.specs.{Redone.redone_under, Differing.verdict_changes}

-- under its own policy a legal day is made again, and none of its verdicts verdict_changes
pub record NothingDiffers (policy : PolicyData) (records : List RecordData) : Type 0 where
  pub same_day : (redone_under policy policy records).records ≡ records
  pub no_change : verdict_changes policy policy records ≡ []

abbrev pub NothingDiffersUnderItsOwn : Type 0
NothingDiffersUnderItsOwn = (policy : PolicyData) (records : List RecordData) → IsLegal policy records → NothingDiffers policy records
