-- What the check of an audit answers.
use Rattle.std.specs.Prelude.{◌≡◌, ◌≢◌, ℕ, ◌+◌, ◌<◌, ◌≤◌, List, [], ◌∷◌, ◌++◌, take, length, ◌⊎◌, Option, Some, Result, Ok, Err, IsTrue}
use Rattle.gx_policy.specs.declared.policy.PolicyData.{PolicyData}
use Rattle.gx_history.specs.{declared.record.{RecordData.RecordData, Step.Step}, Verdicts.{IsLegal, Follows}}
use Rattle.gx_audit.specs.declared.fault.AuditFault.{AuditFault}
use Rattle.gx_access_gate.specs.declared.outcome.Outcome.{Outcome}
use Rattle.gx_audit_bytes.specs.{declared.version.AuditVersion.AuditVersion, Versions.{has_header, version_of}, Audits.{record_size, whole_audit, AreShown}, Headers.header_in, Records.record_bytes, Reading.{record_of, IsRecordShown}}

-- the bytes are the audit of a legal day, in one of the versions, with so many records
pub record IsLegalAudit (policy : PolicyData) (bytes : List ℕ) (count : ℕ) : Type 0 where
  pub version : AuditVersion
  pub version_is : version_of bytes ≡ version
  pub records : List RecordData
  pub legal : IsLegal policy records
  pub shown : AreShown version records
  pub bytes_are : whole_audit version policy records ≡ bytes
  pub count_is : length records ≡ count

-- the bytes are those of no record, or of one with another number
abbrev pub IsBad : AuditVersion → ℕ → List ℕ → Type 0
IsBad version n bytes = (r : RecordData) → record_of version bytes ≡ Some r → r.number ≢ n

-- the bytes are those of a record of this number that is not what its step leaves after those before
pub record IsIllegal (version : AuditVersion) (policy : PolicyData) (before : List RecordData) (n : ℕ) (bytes : List ℕ) : Type 0 where
  pub shown : RecordData
  pub shown_is : record_of version bytes ≡ Some shown
  pub number_is : shown.number ≡ n
  pub does_not_follow : ¬ (Follows policy (before, shown))

-- no record of this step follows those before
abbrev pub NoneFollows : PolicyData → List RecordData → Step → Type 0
NoneFollows policy before step = (r : RecordData) → r.step ≡ step → ¬ (Follows policy (before, r))

-- the fault is that of these bytes as the next record
abbrev pub IsRecordFault : AuditVersion → PolicyData → List RecordData → List ℕ → AuditFault → Type 0
IsRecordFault version policy before bytes AuditFault.Truncated = ⊥
IsRecordFault version policy before bytes (AuditFault.BadRecord n) = (n ≡ length before + 1) × IsBad version n bytes
IsRecordFault version policy before bytes (AuditFault.IllegalVerdict n) = (n ≡ length before + 1) × IsIllegal version policy before n bytes
IsRecordFault version policy before bytes AuditFault.OutOfMemory = Unit {0}
IsRecordFault version policy before bytes AuditFault.OtherPolicy = ⊥

-- the fault stands at these bytes, behind the records before
abbrev pub IsFaultAt : AuditVersion → PolicyData → List RecordData → List ℕ → AuditFault → Type 0
IsFaultAt version policy before left AuditFault.Truncated = (0 < length left) × (length left < record_size)
IsFaultAt version policy before left fault = (record_size ≤ length left) × IsRecordFault version policy before (take record_size left) fault

-- behind the front and the records of a legal day the fault stands at what is left of the bytes
pub record IsFirstFault (policy : PolicyData) (bytes : List ℕ) (fault : AuditFault) : Type 0 where
  pub version : AuditVersion
  pub version_is : version_of bytes ≡ version
  pub before : List RecordData
  pub legal : IsLegal policy before
  pub shown : AreShown version before
  pub left : List ℕ
  pub bytes_are : whole_audit version policy before ++ left ≡ bytes
  pub stands : IsFaultAt version policy before left fault

-- the header is cut short
pub record HasCutHeader (bytes : List ℕ) : Type 0 where
  pub headed : IsTrue (has_header (version_of bytes))
  pub short : length bytes < record_size

-- the header is whole, and another than the policy's in its version and of its day
pub record HasOtherHeader (policy : PolicyData) (bytes : List ℕ) : Type 0 where
  pub headed : IsTrue (has_header (version_of bytes))
  pub whole : record_size ≤ length bytes
  pub other : take record_size bytes ≢ header_in (version_of bytes) policy

-- what the answer says is so; where memory ran out nothing is said
abbrev pub IsAnswer : PolicyData → List ℕ → Result ℕ AuditFault → Type 0
IsAnswer policy bytes (Ok count) = IsLegalAudit policy bytes count
IsAnswer policy bytes (Err AuditFault.OutOfMemory) = Unit {0}
IsAnswer policy bytes (Err AuditFault.OtherPolicy) = HasOtherHeader policy bytes
IsAnswer policy bytes (Err AuditFault.Truncated) = HasCutHeader bytes ⊎ IsFirstFault policy bytes AuditFault.Truncated
IsAnswer policy bytes (Err fault) = IsFirstFault policy bytes fault

-- the answer says what the bytes are: memory did not run out
abbrev pub IsJudgement : Result ℕ AuditFault → Type 0
IsJudgement (Err AuditFault.OutOfMemory) = ⊥
IsJudgement other = Unit {0}

-- no other answer says what is so
abbrev pub IsOnlyAnswer : PolicyData → List ℕ → Result ℕ AuditFault → Type 0
IsOnlyAnswer policy bytes answer =
    (other : Result ℕ AuditFault) → IsJudgement other → IsAnswer policy bytes other → IsJudgement answer → other ≡ answer

-- one more record, with these bytes
pub record IsOneMore (version : AuditVersion) (before after : List RecordData) (bytes : List ℕ) : Type 0 where
  pub added : RecordData
  pub shown : IsRecordShown version added
  pub bytes_are : record_bytes version added ≡ bytes
  pub grown : after ≡ before ++ added ∷ []

-- the record that a step left, by what came of it
abbrev pub record_left : Step → Outcome → RecordData
record_left step o = record { number = o.number; moment = o.moment; step = step; verdict = o.verdict }

-- the records, and the one that a step left, if it left one
abbrev pub with_left : List RecordData → Option RecordData → List RecordData
with_left records (Some left) = records ++ left ∷ []
with_left records other = records
