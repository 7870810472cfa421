-- What a follower made of the bytes that it read.
use Rattle.std.specs.Prelude.{◌≡◌, ◌<◌, ◌≤◌, ℕ, List, [], length, ◌⊎◌, Option}
use Rattle.gx_policy.specs.declared.policy.PolicyData.{PolicyData}
use Rattle.gx_history.specs.declared.record.RecordData.{RecordData}
use Rattle.gx_audit.specs.{declared.fault.AuditFault.AuditFault, Replaying.EndsAt}
use Rattle.gx_audit_bytes.specs.{Audits.record_size, Versions.version_of}

-- the policy, the bytes that were read, the records that were made of them, how many of the bytes are whole, and the fault
-- at which the follower stopped, if it did
pub record FollowerData : Type 0 where
  pub policy : PolicyData
  pub read : List ℕ
  pub records : List RecordData
  pub whole : ℕ
  pub fault : Option AuditFault

-- these are the records of all that is whole among the bytes, in the version that they show, and so many bytes are whole;
-- fewer bytes than a header or a record has show no record
abbrev pub AreWhole : PolicyData → List ℕ → List RecordData → ℕ → Type 0
AreWhole policy read records whole =
    ((length read < record_size) × (records ≡ []) × (whole ≡ 0))
    ⊎ ((record_size ≤ length read) × EndsAt (version_of read) policy read records whole)
