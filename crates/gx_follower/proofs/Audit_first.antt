-- What the first bytes of an audit show.
use Rattle.std.proofs.{Common.{◌≡◌, ℕ, ◌+◌, ◌≤◌, List, [], ◌++◌, length, drop, sym, ap, ◌∙◌, subst, arith}, lemmas.List.{take-append-le, append-nil, length-append, nil_from_length}}
use Rattle.std.specs.Prelude.{IsTrue, false}
use Rattle.gx_policy.specs.declared.policy.PolicyData.{PolicyData}
use Rattle.gx_history.specs.declared.record.RecordData.{RecordData}
use Rattle.gx_audit.specs.{declared.fault.AuditFault.AuditFault, Replaying.IsHeaderFault}
use Rattle.gx_audit_bytes.specs.{declared.version.AuditVersion.AuditVersion, Versions.{has_header, version_of}, Headers.{front_of, header_in}, Audits.{whole_audit}}
use Rattle.gx_audit_bytes.proofs.{Header_parts.size_in, Records_next.no_bytes}
use Rattle.gx_audit.proofs.{Header_call.{front_is, no_front}, Audit_walk.none_shown}
use Rattle.gx_follower.specs.Readings.{IsKnown, IsTold}
use Rattle.gx_follower.proofs.Version_next.{version_on}

-- without records nothing stands behind the front
front_alone : (version : AuditVersion) (policy : PolicyData) (records : List RecordData) → records ≡ [] → whole_audit version policy records ≡ front_of version policy
front_alone version policy records none =
    ap (λ (rs : List RecordData). whole_audit version policy rs) none
    ∙ ap (λ (bytes : List ℕ). front_of version policy ++ bytes) (no_bytes version)
    ∙ append-nil (front_of version policy)

-- without a header, nothing at all
pub none_whole : (version : AuditVersion) (policy : PolicyData) (records : List RecordData) → records ≡ [] → has_header version ≡ false → whole_audit version policy records ≡ []
none_whole version policy records none bare = front_alone version policy records none ∙ no_front version policy bare

-- so that the first record begins the audit
pub begins_bare : (version : AuditVersion) (policy : PolicyData) (records : List RecordData) (block : List ℕ) → records ≡ [] → has_header version ≡ false → version_of block ≡ version
    → version_of (whole_audit version policy records ++ block) ≡ version
begins_bare version policy records block none bare is =
    ap (λ (front : List ℕ). version_of (front ++ block)) (none_whole version policy records none bare) ∙ is

-- the header is all of the bytes
pub header_whole : (version : AuditVersion) (policy : PolicyData) (records : List RecordData) (block : List ℕ) (end : ℕ) → IsTrue (has_header version) → records ≡ [] → length block ≡ 128
    → front_of version policy ++ drop end block ≡ block → whole_audit version policy records ≡ block
header_whole version policy records block end headed none size front =
    let front_size : length (front_of version policy) ≡ 128 = ap length (front_is version policy headed) ∙ size_in version policy in
    let parts : length block ≡ length (front_of version policy) + length (drop end block) = ap length (sym front) ∙ length-append (front_of version policy) (drop end block) in
    let left : drop end block ≡ [] = nil_from_length (drop end block) (omega (arith, front_size, parts, size)) in
    front_alone version policy records none
    ∙ sym (append-nil (front_of version policy))
    ∙ ap (λ (bytes : List ℕ). front_of version policy ++ bytes) (sym left)
    ∙ front

pub known_header : (version : AuditVersion) (policy : PolicyData) (records : List RecordData) (block : List ℕ) (end : ℕ) → version_of block ≡ version → IsTrue (has_header version) → records ≡ []
    → length block ≡ 128 → front_of version policy ++ drop end block ≡ block → IsKnown version policy records
known_header version policy records block end is headed none size front =
    let whole = header_whole version policy records block end headed none size front in
    let long : 128 ≤ length (whole_audit version policy records) = omega (arith, ap length whole, size) in
    record { shown = none_shown version records none; long = long; known = ap version_of whole ∙ is }

-- whatever comes behind another header, it stays another
pub told_of_header : (version : AuditVersion) (policy : PolicyData) (block : List ℕ) (fault : AuditFault) → length block ≡ 128 → version_of block ≡ version → IsTrue (has_header version)
    → IsHeaderFault policy block fault → IsTold policy block fault
told_of_header version policy block AuditFault.Truncated size is headed short = absurd (omega (arith, size, short))
told_of_header version policy block AuditFault.OtherPolicy size is headed other = λ behind.
    let enough : 128 ≤ length block = other.0 in
    let same : version_of (block ++ behind) ≡ version_of block = version_on block behind enough in
    record {
      headed = subst (λ (v : AuditVersion). IsTrue (has_header v)) (sym (same ∙ is)) headed;
      whole = omega (arith, enough, length-append block behind);
      other = λ equal. other.1 (sym (take-append-le 128 block behind enough) ∙ equal ∙ ap (λ (v : AuditVersion). header_in v policy) same);
    }
told_of_header version policy block (AuditFault.BadRecord n) size is headed none = absurd none
told_of_header version policy block (AuditFault.IllegalVerdict n) size is headed none = absurd none
told_of_header version policy block AuditFault.OutOfMemory size is headed none = absurd none

-- what is told of the first record is told of the bytes
pub told_at_first : (version : AuditVersion) (policy : PolicyData) (records : List RecordData) (block : List ℕ) (fault : AuditFault) → records ≡ [] → has_header version ≡ false
    → IsTold policy (whole_audit version policy records ++ block) fault → IsTold policy block fault
told_at_first version policy records block fault none bare told =
    subst (λ (front : List ℕ). IsTold policy (front ++ block) fault) (none_whole version policy records none bare) told
