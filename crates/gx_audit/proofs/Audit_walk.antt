-- From a record of an audit to the whole.
use Rattle.std.proofs.{Common.{◌≡◌, ℕ, ◌+◌, ◌≤◌, ◌<◌, List, [], ◌∷◌, ◌++◌, length, take, drop, sym, ap, ◌∙◌, append_assoc, subst, arith, inr}, lemmas.List.{take-append-drop, drop-drop, drop_all, append-nil, length-drop}}
use Rattle.std.specs.Prelude.{Result, Ok, Err}
use Rattle.gx_units.proofs.Lists_hold.{all_next}
use Rattle.gx_history.specs.{declared.record.RecordData.RecordData, Verdicts.IsLegal}
use Rattle.gx_policy.specs.declared.policy.PolicyData.{PolicyData}
use Rattle.gx_audit.specs.{declared.fault.AuditFault.AuditFault, Replaying.{EndsAt, IsRecordsFault}, Auditing.{IsAnswer, IsFaultAt, IsRecordFault, IsFirstFault, IsOneMore}}
use Rattle.gx_audit_bytes.specs.{declared.version.AuditVersion.AuditVersion, Versions.version_of, Headers.front_of, Records.record_bytes, Reading.IsRecordShown, Audits.{all_bytes, whole_audit, AreShown}}
use Rattle.gx_audit_bytes.proofs.Records_next.{no_bytes, more_bytes}

pub whole_more : (version : AuditVersion) (policy : PolicyData) (records : List RecordData) (r : RecordData)
    → whole_audit version policy (records ++ r ∷ []) ≡ whole_audit version policy records ++ record_bytes version r
whole_more version policy records r =
    ap (λ (bytes : List ℕ). front_of version policy ++ bytes) (more_bytes version records r)
    ∙ sym (append_assoc (front_of version policy) (all_bytes version records) (record_bytes version r))

-- at the beginning
pub begins : (version : AuditVersion) (policy : PolicyData) (records : List RecordData) (bytes : List ℕ) (start : ℕ) → records ≡ []
    → front_of version policy ++ drop start bytes ≡ bytes → whole_audit version policy records ++ drop start bytes ≡ bytes
begins version policy records bytes start none front =
    ap (λ (rs : List RecordData). whole_audit version policy rs ++ drop start bytes) none
    ∙ ap (λ (done : List ℕ). (front_of version policy ++ done) ++ drop start bytes) (no_bytes version)
    ∙ ap (λ (done : List ℕ). done ++ drop start bytes) (append-nil (front_of version policy))
    ∙ front

pub none_shown : (version : AuditVersion) (records : List RecordData) → records ≡ [] → AreShown version records
none_shown version records none = subst (AreShown version) (sym none) tt

-- one more record of the bytes
pub bytes_further : (version : AuditVersion) (policy : PolicyData) {before after : List RecordData} (piece bytes : List ℕ) (at : ℕ)
    → whole_audit version policy before ++ drop at bytes ≡ bytes → IsOneMore version before after piece
    → piece ≡ take 128 (drop at bytes) → whole_audit version policy after ++ drop (at + 128) bytes ≡ bytes
bytes_further version policy {before} piece bytes at h more cut =
    ap (λ (rs : List RecordData). whole_audit version policy rs ++ drop (at + 128) bytes) more.grown
    ∙ ap (λ (front : List ℕ). front ++ drop (at + 128) bytes)
    (whole_more version policy before more.added ∙ ap (λ (bs : List ℕ). whole_audit version policy before ++ bs) (more.bytes_are ∙ cut))
    ∙ append_assoc (whole_audit version policy before) (take 128 (drop at bytes)) (drop (at + 128) bytes)
    ∙ ap (λ (rest : List ℕ). whole_audit version policy before ++ (take 128 (drop at bytes) ++ rest)) (sym (drop-drop 128 at bytes))
    ∙ ap (λ (rest : List ℕ). whole_audit version policy before ++ rest) (take-append-drop 128 (drop at bytes))
    ∙ h

pub shown_further : (version : AuditVersion) {before after : List RecordData} (piece : List ℕ) → AreShown version before → IsOneMore version before after piece → AreShown version after
shown_further version {before} piece shown more = subst (AreShown version) (sym more.grown) (all_next (IsRecordShown version) before more.added shown more.shown)

-- the fault after the records so far is the first
first_fault : (version : AuditVersion) {policy : PolicyData} {records : List RecordData} (bytes : List ℕ) (at : ℕ) (fault : AuditFault) → version_of bytes ≡ version
    → IsLegal policy records → AreShown version records → whole_audit version policy records ++ drop at bytes ≡ bytes
    → IsFaultAt version policy records (drop at bytes) fault → IsFirstFault policy bytes fault
first_fault version {records} bytes at fault is legal shown are stands =
    record {
      version = version;
      version_is = is;
      before = records;
      legal = legal;
      shown = shown;
      left = drop at bytes;
      bytes_are = are;
      stands = stands;
    }

fault_of : (version : AuditVersion) {policy : PolicyData} {records : List RecordData} (piece bytes : List ℕ) (at : ℕ) (fault : AuditFault) → version_of bytes ≡ version
    → IsLegal policy records → AreShown version records → whole_audit version policy records ++ drop at bytes ≡ bytes → 128 ≤ length (drop at bytes)
    → piece ≡ take 128 (drop at bytes) → IsRecordFault version policy records piece fault → IsRecordsFault policy bytes fault
fault_of version piece bytes at AuditFault.Truncated is legal shown are whole cut stands = stands
fault_of version {policy} {records} piece bytes at (AuditFault.BadRecord n) is legal shown are whole cut stands =
    first_fault version bytes at (AuditFault.BadRecord n) is legal shown are
    (whole, subst (λ (bs : List ℕ). IsRecordFault version policy records bs (AuditFault.BadRecord n)) cut stands)
fault_of version {policy} {records} piece bytes at (AuditFault.IllegalVerdict n) is legal shown are whole cut stands =
    first_fault version bytes at (AuditFault.IllegalVerdict n) is legal shown are
    (whole, subst (λ (bs : List ℕ). IsRecordFault version policy records bs (AuditFault.IllegalVerdict n)) cut stands)
fault_of version piece bytes at AuditFault.OutOfMemory is legal shown are whole cut stands = tt
fault_of version piece bytes at AuditFault.OtherPolicy is legal shown are whole cut stands = stands

-- what is told of the record at hand is told of the bytes
pub fault_told : (version : AuditVersion) (policy : PolicyData) {held : PolicyData} {records : List RecordData} (piece bytes : List ℕ) (at : ℕ) (fault : AuditFault) → held ≡ policy
    → version_of bytes ≡ version → IsLegal held records → AreShown version records → whole_audit version policy records ++ drop at bytes ≡ bytes
    → at + 128 ≤ length bytes → piece ≡ take 128 (drop at bytes) → IsRecordFault version held records piece fault → IsRecordsFault policy bytes fault
fault_told version policy {records} piece bytes at fault same is legal shown are within cut stands =
    fault_of version piece bytes at fault is (subst (λ (p : PolicyData). IsLegal p records) same legal) shown are
    (omega (arith, within, length-drop at bytes)) cut (subst (λ (p : PolicyData). IsRecordFault version p records piece fault) same stands)

-- a fault among the records is an answer
pub answer_of_records : (policy : PolicyData) (bytes : List ℕ) (fault : AuditFault) → IsRecordsFault policy bytes fault → IsAnswer policy bytes (Err fault)
answer_of_records policy bytes AuditFault.Truncated none = absurd none
answer_of_records policy bytes (AuditFault.BadRecord n) found = found
answer_of_records policy bytes (AuditFault.IllegalVerdict n) found = found
answer_of_records policy bytes AuditFault.OutOfMemory found = tt
answer_of_records policy bytes AuditFault.OtherPolicy none = absurd none

-- some bytes are left
pub left_told : (version : AuditVersion) (policy : PolicyData) (records : List RecordData) (bytes : List ℕ) (end : ℕ) → version_of bytes ≡ version → IsLegal policy records
    → EndsAt version policy bytes records end → end < length bytes → IsAnswer policy bytes (Err AuditFault.Truncated)
left_told version policy records bytes end is legal ends some =
    let short = ends.short in
    inr (first_fault version bytes end AuditFault.Truncated is legal ends.shown ends.bytes_are
    (omega (arith, some, length-drop end bytes), omega (arith, short, length-drop end bytes)))

-- no bytes are left
pub all_legal : (version : AuditVersion) (policy : PolicyData) (records : List RecordData) (bytes : List ℕ) (end count : ℕ) → version_of bytes ≡ version → IsLegal policy records
    → EndsAt version policy bytes records end → length bytes ≤ end → count ≡ length records → IsAnswer policy bytes (Ok count)
all_legal version policy records bytes end count is legal ends past counted =
    record {
      version = version;
      version_is = is;
      records = records;
      legal = legal;
      shown = ends.shown;
      bytes_are =
          sym (append-nil (whole_audit version policy records))
          ∙ ap (λ (rest : List ℕ). whole_audit version policy records ++ rest) (sym (drop_all end bytes past)) ∙ ends.bytes_are;
      count_is = sym counted;
    }

-- an answer under the policy that the gate holds
pub answer_under : (policy held : PolicyData) (bytes : List ℕ) (answer : Result ℕ AuditFault) → held ≡ policy → IsAnswer held bytes answer → IsAnswer policy bytes answer
answer_under policy held bytes answer same so = subst (λ (p : PolicyData). IsAnswer p bytes answer) same so
