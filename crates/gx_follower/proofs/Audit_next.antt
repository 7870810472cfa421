-- One more record of an audit.
use Rattle.std.proofs.{Common.{◌≡◌, ℕ, ◌+◌, ◌≤◌, List, ◌++◌, length, take, drop, refl, sym, ap, ◌∙◌, append_assoc, arith}, lemmas.List.{drop_at, take_at, length-append}}
use Rattle.gx_policy.specs.declared.policy.PolicyData.{PolicyData}
use Rattle.gx_history.specs.{declared.record.RecordData.RecordData, Verdicts.IsLegal}
use Rattle.gx_audit.specs.{declared.fault.AuditFault.AuditFault, Auditing.{IsOneMore, IsRecordFault}}
use Rattle.gx_audit_bytes.specs.{declared.version.AuditVersion.AuditVersion, Versions.version_of, Audits.{whole_audit, AreShown}}
use Rattle.gx_audit.proofs.{Bytes_only.shown_size, Audit_walk.{answer_of_records, fault_told, shown_further, whole_more}}
use Rattle.gx_follower.specs.Readings.{IsKnown, IsTold}
use Rattle.gx_follower.proofs.Version_next.{version_on}

-- its bytes stand behind the others
pub whole_on : (version : AuditVersion) (policy held : PolicyData) (before after : List RecordData) (block : List ℕ) → held ≡ policy → IsOneMore version before after block
    → whole_audit version held after ≡ whole_audit version policy before ++ block
whole_on version policy held before after block same more =
    (λ i. whole_audit version (same i) (more.grown i))
    ∙ whole_more version policy before more.added
    ∙ ap (λ (bytes : List ℕ). whole_audit version policy before ++ bytes) more.bytes_are

pub known_on : (version : AuditVersion) (policy held : PolicyData) (before after : List RecordData) (block : List ℕ) → held ≡ policy → AreShown version before
    → version_of (whole_audit version policy before ++ block) ≡ version → IsOneMore version before after block → IsKnown version held after
known_on version policy held before after block same shown is more =
    let whole = whole_on version policy held before after block same more in
    let size : length block ≡ 128 = ap length (sym more.bytes_are) ∙ shown_size version more.added more.shown in
    let long : 128 ≤ length (whole_audit version held after) = omega (arith, ap length whole, length-append (whole_audit version policy before) block, size) in
    record { shown = shown_further version block shown more; long = long; known = ap version_of whole ∙ is }

-- whatever comes behind the record, its fault is the first
pub told_of_record : (version : AuditVersion) (policy : PolicyData) (records : List RecordData) (block : List ℕ) (fault : AuditFault) → length block ≡ 128 → AreShown version records
    → version_of (whole_audit version policy records ++ block) ≡ version → IsLegal policy records → IsRecordFault version policy records block fault
    → IsTold policy (whole_audit version policy records ++ block) fault
told_of_record version policy records block fault size shown is legal stands = λ behind.
    let front = whole_audit version policy records in
    let bytes = (front ++ block) ++ behind in
    let enough : 128 ≤ length (front ++ block) = omega (arith, length-append front block, size) in
    let left : drop (length front) bytes ≡ block ++ behind =
    ap (drop (length front)) (append_assoc front block behind) ∙ drop_at front (block ++ behind) (length front) refl in
    let are : front ++ drop (length front) bytes ≡ bytes = ap (λ (rest : List ℕ). front ++ rest) left ∙ sym (append_assoc front block behind) in
    let within : length front + 128 ≤ length bytes = omega (arith, length-append (front ++ block) behind, length-append front block, size) in
    let cut : block ≡ take 128 (drop (length front) bytes) = sym (ap (take 128) left ∙ take_at block behind 128 size) in
    answer_of_records policy bytes fault
    (fault_told version policy block bytes (length front) fault refl (version_on (front ++ block) behind enough ∙ is) legal shown are within cut stands)
