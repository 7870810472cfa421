-- Which records an audit shows.
use Rattle.std.specs.{Prelude.{◌≡◌, ℕ, ◌+◌, ◌<◌, ◌≤◌, List, ◌++◌, length, take, drop, Option, Some, None}, List.AllByRecursion}
use Rattle.gx_policy.specs.declared.policy.PolicyData.{PolicyData}
use Rattle.gx_history.specs.declared.record.RecordData.{RecordData}
use Rattle.gx_audit_bytes.specs.{declared.version.AuditVersion.AuditVersion, Audits.{all_bytes, record_size}, Reading.record_of, Records.record_bytes, Versions.version_of}
use Rattle.gx_show.specs.{declared.choice.Choice.Choice, Choosing.records_chosen}

-- how many bytes stand in front of the records: a header's, where there is one
abbrev pub front_size : AuditVersion → ℕ
front_size AuditVersion.One = 0
front_size AuditVersion.Two = record_size
front_size (AuditVersion.Three day) = record_size

-- the bytes behind the header
abbrev pub behind_header : List ℕ → List ℕ
behind_header audit = drop (front_size (version_of audit)) audit

-- each record is the one that its bytes show
abbrev pub AreReadBack : AuditVersion → List RecordData → Type 0
AreReadBack version records = AllByRecursion (λ (r : RecordData). record_of version (record_bytes version r) ≡ Some r) records

-- why no record follows so many: too few bytes are left, or the next are no record's, whose number this is
abbrev pub NoRecordFollows : AuditVersion → ℕ → List ℕ → Option ℕ → Type 0
NoRecordFollows version count rest None = length rest < record_size
NoRecordFollows version count rest (Some number) = (number ≡ count + 1) × (record_size ≤ length rest) × (record_of version (take record_size rest) ≡ None)

-- the audit shows these records, up to the first that is none
pub record IsRead (audit : List ℕ) (records : List RecordData) (bad : Option ℕ) : Type 0 where
  pub shown : AreReadBack (version_of audit) records
  pub rest : List ℕ
  pub bytes_are : all_bytes (version_of audit) records ++ rest ≡ behind_header audit
  pub ends : NoRecordFollows (version_of audit) (length records) rest bad

-- these are the records of the audit that are asked for, of all up to the first that is none
pub record IsFound (policy : PolicyData) (choice : Choice) (audit : List ℕ) (found : List RecordData) (bad : Option ℕ) : Type 0 where
  pub records : List RecordData
  pub read : IsRead audit records bad
  pub found_are : found ≡ records_chosen policy choice records
