-- What stands of an audit while its bytes come, one piece after the other.
use Rattle.std.specs.Prelude.{◌≡◌, ℕ, ◌<◌, ◌≤◌, ◌^◌, List, [], ◌++◌, length, Option, Some, None, Err}
use Rattle.gx_policy.specs.declared.policy.PolicyData.{PolicyData}
use Rattle.gx_history.specs.declared.record.RecordData.{RecordData}
use Rattle.gx_access_gate.specs.Gates.{GateData}
use Rattle.gx_audit.specs.{declared.fault.AuditFault.AuditFault, Auditing.IsAnswer}
use Rattle.gx_audit_bytes.specs.{declared.version.AuditVersion.AuditVersion, Audits.{record_size, whole_audit, AreShown}, Versions.version_of}
use Rattle.gx_follower.specs.declared.piece.Reading.{Reading}

-- the bytes of these records, and what stands in front of them; none while the version is not known
abbrev pub whole_of : Option AuditVersion → GateData → List ℕ
whole_of None gate = []
whole_of (Some version) gate = whole_audit version gate.policy gate.records

-- and the rest behind them
abbrev pub read_of : Reading → GateData → List ℕ
read_of reading gate = whole_of reading.version gate ++ reading.rest.items

-- the bytes of these records show them, and their version
pub record IsKnown (version : AuditVersion) (policy : PolicyData) (records : List RecordData) : Type 0 where
  pub shown : AreShown version records
  pub long : record_size ≤ length (whole_audit version policy records)
  pub known : version_of (whole_audit version policy records) ≡ version

-- the version is known, or there are no records
abbrev pub HasBegun : Option AuditVersion → GateData → Type 0
HasBegun None gate = gate.records ≡ []
HasBegun (Some version) gate = IsKnown version gate.policy gate.records

-- the records are those of the bytes in front of the rest
pub record IsReading (reading : Reading) (gate : GateData) : Type 0 where
  pub begun : HasBegun reading.version gate
  pub counted : reading.whole ≡ length (whole_of reading.version gate)
  pub few : length (read_of reading gate) < 2 ^ 64

-- and the rest is not a whole record
abbrev pub IsSettled : Reading → GateData → Type 0
IsSettled reading gate = IsReading reading gate × (length reading.rest.items < record_size)

-- whatever comes behind the bytes, this fault is the check's answer
abbrev pub IsTold : PolicyData → List ℕ → AuditFault → Type 0
IsTold policy bytes fault = (behind : List ℕ) → IsAnswer policy (bytes ++ behind) (Err fault)
