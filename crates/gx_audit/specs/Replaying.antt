-- What is made of a journal: the audit, in a version that has a header, of a day that goes on. It may be cut in its last record.
use Rattle.std.specs.Prelude.{◌≡◌, ◌≢◌, ℕ, ◌+◌, ◌*◌, ◌<◌, ◌≤◌, List, ◌++◌, take, drop, length, ◌⊎◌, IsTrue}
use Rattle.gx_policy.specs.declared.policy.PolicyData.{PolicyData}
use Rattle.gx_history.specs.declared.record.RecordData.{RecordData}
use Rattle.gx_audit.specs.{declared.fault.AuditFault.AuditFault, Auditing.IsFirstFault}
use Rattle.gx_audit_bytes.specs.{declared.version.AuditVersion.AuditVersion, Versions.{has_header, version_of}, Audits.{record_size, whole_audit, AreShown}, Headers.header_in}

-- the bytes are the audit of these records up to this place, behind which too few are left for another record
pub record EndsAt (version : AuditVersion) (policy : PolicyData) (bytes : List ℕ) (records : List RecordData) (end : ℕ) : Type 0 where
  pub within : end ≤ length bytes
  pub short : length bytes < end + record_size
  pub shown : AreShown version records
  pub bytes_are : whole_audit version policy records ++ drop end bytes ≡ bytes

-- the journal is the audit of these records, but for fewer bytes than a record has, behind them
pub record HoldsRecords (policy : PolicyData) (journal : List ℕ) (records : List RecordData) : Type 0 where
  pub headed : IsTrue (has_header (version_of journal))
  pub shown : AreShown (version_of journal) records
  pub rest : List ℕ
  pub short : length rest < record_size
  pub bytes_are : whole_audit (version_of journal) policy records ++ rest ≡ journal

-- how many bytes a journal of so many records has: its header's and theirs
abbrev pub journal_size : ℕ → ℕ
journal_size count = record_size + record_size * count

-- the bytes do not begin with the policy's header: they are too few for one, or begin otherwise
abbrev pub IsHeaderFault : PolicyData → List ℕ → AuditFault → Type 0
IsHeaderFault policy bytes AuditFault.Truncated = length bytes < record_size
IsHeaderFault policy bytes AuditFault.OtherPolicy = (record_size ≤ length bytes) × (take record_size bytes ≢ header_in (version_of bytes) policy)
IsHeaderFault policy bytes other = ⊥

-- behind the front and the records of a legal day the next record's bytes have the fault; where memory ran out nothing is said
abbrev pub IsRecordsFault : PolicyData → List ℕ → AuditFault → Type 0
IsRecordsFault policy bytes AuditFault.Truncated = ⊥
IsRecordsFault policy bytes AuditFault.OtherPolicy = ⊥
IsRecordsFault policy bytes AuditFault.OutOfMemory = Unit {0}
IsRecordsFault policy bytes fault = IsFirstFault policy bytes fault

-- why bytes are no journal
abbrev pub IsReplayFault : PolicyData → List ℕ → AuditFault → Type 0
IsReplayFault policy bytes fault = IsHeaderFault policy bytes fault ⊎ IsRecordsFault policy bytes fault
