-- The first records of an audit.
use Rattle.std.specs.Prelude.{◌≡◌, ◌≤◌, ◌<◌, ℕ, List, ◌++◌, length, ◌⊎◌}
use Rattle.gx_policy.specs.declared.policy.PolicyData.{PolicyData}
use Rattle.gx_history.specs.declared.record.RecordData.{RecordData}
use Rattle.gx_audit_bytes.specs.{Audits.{record_size, whole_audit, AreShown}, Versions.version_of}

-- these are the audit's first records, so many of them, or all where it has fewer, behind which too few bytes are left for
-- another
pub record AreFirstOfAudit (policy : PolicyData) (most : ℕ) (audit : List ℕ) (records : List RecordData) : Type 0 where
  pub shown : AreShown (version_of audit) records
  pub few : length records ≤ most
  pub rest : List ℕ
  pub bytes_are : whole_audit (version_of audit) policy records ++ rest ≡ audit
  pub all : (length records ≡ most) ⊎ (length rest < record_size)
