-- The bytes of a day's records.
use Rattle.std.specs.{Prelude.{ℕ, List, ◌++◌, map}, List.{concat, AllByRecursion}}
use Rattle.gx_policy.specs.declared.policy.PolicyData.{PolicyData}
use Rattle.gx_history.specs.declared.record.RecordData.{RecordData}
use Rattle.gx_audit_bytes.specs.{declared.version.AuditVersion.AuditVersion, Headers.front_of, Records.record_bytes, Reading.IsRecordShown}

-- how many bytes a record has, and a header
abbrev pub record_size : ℕ
record_size = 128

-- the bytes of the records, one behind the other
unfoldable pub all_bytes : AuditVersion → List RecordData → List ℕ
all_bytes version records = concat (map (record_bytes version) records)

-- each record is one that its bytes show
abbrev pub AreShown : AuditVersion → List RecordData → Type 0
AreShown version records = AllByRecursion (IsRecordShown version) records

-- an audit: in version 1 the records' bytes alone, in version 2 the policy's header, and then those
abbrev pub whole_audit : AuditVersion → PolicyData → List RecordData → List ℕ
whole_audit version policy records = front_of version policy ++ all_bytes version records
