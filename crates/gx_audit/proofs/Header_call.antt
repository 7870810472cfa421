-- What stands in front of the records.
use Rattle.std.proofs.{Common.{◌≡◌, ◌≢◌, ℕ, ◌+◌, ◌≤◌, true, false, inl, List, [], ◌∷◌, ◌++◌, length, take, drop, refl, sym, ap, ◌∙◌, append_assoc, subst, arith}, lemmas.List.{take_at, take-append-drop, length-append}}
use Rattle.std.specs.Prelude.{Result, Ok, Err, IfErr, IsTrue}
use Rattle.gx_policy.specs.declared.policy.PolicyData.{PolicyData}
use Rattle.gx_history.specs.declared.record.RecordData.{RecordData}
use Rattle.gx_audit.specs.{declared.fault.AuditFault.AuditFault, Auditing.{HasOtherHeader, IsAnswer}, Replaying.IsHeaderFault}
use Rattle.gx_audit_bytes.specs.{declared.version.AuditVersion.AuditVersion, Versions.{has_header, version_of, DayFits}, Headers.{header_bytes, header_in, front_of}, Records.record_bytes, Audits.{all_bytes, whole_audit}}
use Rattle.gx_audit_bytes.proofs.Header_parts.{day_known, size_in}

-- the version of an audit is found in it
pub version_known : (version : AuditVersion) (policy : PolicyData) (records : List RecordData) → DayFits version → version_of (whole_audit version policy records) ≡ version
unfolding all_bytes record_bytes header_bytes
version_known AuditVersion.One policy [] fits = refl
version_known AuditVersion.One policy (r ∷ records) fits = refl
version_known AuditVersion.Two policy records fits = refl
version_known (AuditVersion.Three day) policy records fits = day_known policy day (all_bytes (AuditVersion.Three day) records) fits

-- nothing stands in front, or the header
pub no_front : (version : AuditVersion) (policy : PolicyData) → has_header version ≡ false → front_of version policy ≡ []
no_front AuditVersion.One policy none = refl
no_front AuditVersion.Two policy none = cc
no_front (AuditVersion.Three day) policy none = cc

pub front_is : (version : AuditVersion) (policy : PolicyData) → IsTrue (has_header version) → front_of version policy ≡ header_in version policy
front_is AuditVersion.One policy headed = cc
front_is AuditVersion.Two policy headed = refl
front_is (AuditVersion.Three day) policy headed = refl

pub headless : (version : AuditVersion) (policy : PolicyData) (bytes : List ℕ) → has_header version ≡ false → front_of version policy ++ drop 0 bytes ≡ bytes
headless version policy bytes none = ap (λ (front : List ℕ). front ++ bytes) (no_front version policy none)

-- bytes of a version that has one begin with the header
pub begins_so : (version : AuditVersion) (policy : PolicyData) (records : List RecordData) (left bytes : List ℕ) → IsTrue (has_header version)
    → whole_audit version policy records ++ left ≡ bytes → header_in version policy ++ (all_bytes version records ++ left) ≡ bytes
begins_so version policy records left bytes headed are =
    ap (λ (front : List ℕ). front ++ (all_bytes version records ++ left)) (sym (front_is version policy headed))
    ∙ sym (append_assoc (front_of version policy) (all_bytes version records) left)
    ∙ are

pub long_enough : (version : AuditVersion) (policy : PolicyData) (behind bytes : List ℕ) → header_in version policy ++ behind ≡ bytes → 128 ≤ length bytes
long_enough version policy behind bytes are =
    let size : length bytes ≡ length (header_in version policy) + length behind = ap length (sym are) ∙ length-append (header_in version policy) behind in
    omega (arith, size, size_in version policy)

pub same_header : (version : AuditVersion) (policy : PolicyData) (behind bytes : List ℕ) → header_in version policy ++ behind ≡ bytes → take 128 bytes ≡ header_in version policy
same_header version policy behind bytes are = ap (take 128) (sym are) ∙ take_at (header_in version policy) behind 128 (size_in version policy)

-- the header is another
pub other_header : (version : AuditVersion) (policy : PolicyData) (bytes piece header : List ℕ) → version_of bytes ≡ version → 128 ≤ length bytes → piece ≡ take 128 (drop 0 bytes)
    → header ≡ header_in version policy → piece ≢ header → IsHeaderFault policy bytes AuditFault.OtherPolicy
other_header version policy bytes piece header is whole cut written differ =
    (whole, λ same. differ (cut ∙ same ∙ ap (λ (v : AuditVersion). header_in v policy) is ∙ sym written))

header_answer : (policy : PolicyData) (bytes : List ℕ) (fault : AuditFault) → IsTrue (has_header (version_of bytes)) → IsHeaderFault policy bytes fault → IsAnswer policy bytes (Err fault)
header_answer policy bytes AuditFault.Truncated headed short = inl (record { headed = headed; short = short })
header_answer policy bytes AuditFault.OtherPolicy headed other = record { headed = headed; whole = other.0; other = other.1 }
header_answer policy bytes (AuditFault.BadRecord n) headed none = absurd none
header_answer policy bytes (AuditFault.IllegalVerdict n) headed none = absurd none
header_answer policy bytes AuditFault.OutOfMemory headed none = absurd none

-- what is told of the header of an audit that has one
pub told_of_header : (version : AuditVersion) (policy : PolicyData) (bytes : List ℕ) (answer : Result ℕ AuditFault) → version_of bytes ≡ version → IsTrue (has_header version)
    → IfErr answer (λ e. IsHeaderFault policy bytes e) → IfErr answer (λ e. IsAnswer policy bytes (Err e))
told_of_header version policy bytes (Ok end) is headed fault = tt
told_of_header version policy bytes (Err e) is headed fault =
    header_answer policy bytes e (subst (λ (v : AuditVersion). IsTrue (has_header v)) (sym is) headed) fault

-- bytes that begin with a header of version 2 are of that version
second_version : (policy : PolicyData) (behind bytes : List ℕ) → header_bytes policy ++ behind ≡ bytes → version_of bytes ≡ AuditVersion.Two
unfolding header_bytes
second_version policy behind bytes are = ap version_of (sym are)

other_version : (version : AuditVersion) → version ≡ AuditVersion.One → version ≡ AuditVersion.Two → ⊥
other_version version one two = cc

-- bytes that begin with a header have a version that has one
pub is_headed : (version : AuditVersion) (policy : PolicyData) (behind bytes : List ℕ) → version_of bytes ≡ version → header_in version policy ++ behind ≡ bytes → IsTrue (has_header version)
is_headed AuditVersion.One policy behind bytes is are = absurd (other_version (version_of bytes) is (second_version policy behind bytes are))
is_headed AuditVersion.Two policy behind bytes is are = refl
is_headed (AuditVersion.Three day) policy behind bytes is are = refl

-- the header is the policy's
pub begins_with : (version : AuditVersion) (policy : PolicyData) (bytes piece header : List ℕ) → piece ≡ take 128 (drop 0 bytes) → header ≡ header_in version policy → piece ≡ header
    → header_in version policy ++ drop 128 bytes ≡ bytes
begins_with version policy bytes piece header cut written same =
    ap (λ (front : List ℕ). front ++ drop 128 bytes) (sym written ∙ sym same ∙ cut) ∙ take-append-drop 128 bytes

pub behind_header : (version : AuditVersion) (policy : PolicyData) (bytes : List ℕ) → version_of bytes ≡ version → header_in version policy ++ drop 128 bytes ≡ bytes
    → front_of version policy ++ drop 128 bytes ≡ bytes
behind_header version policy bytes is are =
    ap (λ (front : List ℕ). front ++ drop 128 bytes) (front_is version policy (is_headed version policy (drop 128 bytes) bytes is are)) ∙ are

-- without a header there is no other
pub no_header : (version : AuditVersion) (policy : PolicyData) (bytes : List ℕ) → version_of bytes ≡ version → has_header version ≡ false → HasOtherHeader policy bytes → ⊥
no_header version policy bytes is none other = clash (sym other.headed ∙ ap has_header is ∙ none)
  where
    clash : true ≡ false → ⊥
    clash e = cc

-- bytes that begin with the policy's header have no other
pub no_other_header : (version : AuditVersion) (policy : PolicyData) (bytes : List ℕ) (end : ℕ) → version_of bytes ≡ version → IsTrue (has_header version)
    → front_of version policy ++ drop end bytes ≡ bytes → HasOtherHeader policy bytes → ⊥
no_other_header version policy bytes end is headed are other =
    other.other
    (same_header version policy (drop end bytes) bytes (ap (λ (front : List ℕ). front ++ drop end bytes) (sym (front_is version policy headed)) ∙ are)
    ∙ ap (λ (v : AuditVersion). header_in v policy) (sym is))

-- the fault of another header, and none of the others, says that there is one
pub header_told : (version : AuditVersion) (policy : PolicyData) (bytes : List ℕ) (fault : AuditFault) → version_of bytes ≡ version → has_header version ≡ true
    → IsHeaderFault policy bytes fault → fault ≡ AuditFault.OtherPolicy → HasOtherHeader policy bytes
header_told version policy bytes AuditFault.OtherPolicy is headed other told = record { headed = ap has_header is ∙ headed; whole = other.0; other = other.1 }
header_told version policy bytes AuditFault.Truncated is headed short told = cc
header_told version policy bytes (AuditFault.BadRecord n) is headed none told = absurd none
header_told version policy bytes (AuditFault.IllegalVerdict n) is headed none told = absurd none
header_told version policy bytes AuditFault.OutOfMemory is headed none told = absurd none

pub header_not_told : (policy : PolicyData) (bytes : List ℕ) (fault : AuditFault) → IsHeaderFault policy bytes fault → fault ≢ AuditFault.OtherPolicy → HasOtherHeader policy bytes → ⊥
header_not_told policy bytes AuditFault.OtherPolicy other told there = told refl
header_not_told policy bytes AuditFault.Truncated short told there = let whole : 128 ≤ length bytes = there.whole in omega arith
header_not_told policy bytes (AuditFault.BadRecord n) none told there = absurd none
header_not_told policy bytes (AuditFault.IllegalVerdict n) none told there = absurd none
header_not_told policy bytes AuditFault.OutOfMemory none told there = absurd none
