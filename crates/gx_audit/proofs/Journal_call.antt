-- The records that a journal holds.
use Rattle.std.proofs.Common.{◌≡◌, ℕ, ◌+◌, ◌*◌, ◌≤◌, List, [], ◌∷◌, length, drop, refl, ap, ◌∙◌, sym, subst, arith, length-append, length-drop}
use Rattle.std.specs.Prelude.{IsTrue}
use Rattle.gx_policy.specs.declared.policy.PolicyData.{PolicyData}
use Rattle.gx_history.specs.declared.record.RecordData.{RecordData}
use Rattle.gx_audit_bytes.specs.{declared.version.AuditVersion.AuditVersion, Audits.{all_bytes, whole_audit, AreShown}, Headers.front_of, Records.record_bytes, Versions.{has_header, version_of}}
use Rattle.gx_audit.specs.Replaying.{EndsAt, HoldsRecords, journal_size}
use Rattle.gx_audit_bytes.proofs.Header_parts.{size_in}
use Rattle.gx_audit.proofs.{Header_call.front_is, Bytes_only.shown_size}

held : {policy : PolicyData} (journal : List ℕ) {records : List RecordData} (end : ℕ) → IsTrue (has_header (version_of journal))
    → EndsAt (version_of journal) policy journal records end → HoldsRecords policy journal records
held journal end headed ends = record {
  headed = headed;
  shown = ends.shown;
  rest = drop end journal;
  short = let short = ends.short in omega (arith, short, length-drop end journal);
  bytes_are = ends.bytes_are;
}

-- those that end at a place
pub holds_records : (version : AuditVersion) (policy : PolicyData) (journal : List ℕ) (records : List RecordData) (end : ℕ) → version_of journal ≡ version → IsTrue (has_header version)
    → EndsAt version policy journal records end → HoldsRecords policy journal records
holds_records version policy journal records end is headed ends =
    held journal end
    (subst (λ (v : AuditVersion). IsTrue (has_header v)) (sym is) headed)
    (subst (λ (v : AuditVersion). EndsAt v policy journal records end) (sym is) ends)

records_size : (version : AuditVersion) (records : List RecordData) → AreShown version records → length (all_bytes version records) ≡ 128 * length records
unfolding all_bytes
records_size version [] shown = refl
records_size version (r ∷ records) shown =
    let one = shown_size version r shown.0 in
    let more = records_size version records shown.1 in
    omega (arith, one, more, length-append (record_bytes version r) (all_bytes version records))

-- how many bytes an audit has
pub audit_size : (version : AuditVersion) (policy : PolicyData) (records : List RecordData) → IsTrue (has_header version) → AreShown version records
    → length (whole_audit version policy records) ≡ journal_size (length records)
audit_size version policy records headed shown =
    let parts : length (whole_audit version policy records) ≡ length (front_of version policy) + length (all_bytes version records) =
    length-append (front_of version policy) (all_bytes version records) in
    let front : length (front_of version policy) ≡ 128 = ap length (front_is version policy headed) ∙ size_in version policy in
    omega (arith, parts, front, records_size version records shown)

-- so many bytes, within the journal
pub is_within : (version : AuditVersion) (policy : PolicyData) (journal : List ℕ) (records : List RecordData) (end : ℕ) → IsTrue (has_header version) → EndsAt version policy journal records end
    → journal_size (length records) ≤ length journal
is_within version policy journal records end headed ends =
    let whole : length journal ≡ length (whole_audit version policy records) + length (drop end journal) =
    ap length (sym ends.bytes_are) ∙ length-append (whole_audit version policy records) (drop end journal) in
    omega (arith, whole, audit_size version policy records headed ends.shown)
