-- From a record of an audit to the next.
use Rattle.std.proofs.{Common.{◌≡◌, ℕ, ◌+◌, List, [], ◌∷◌, ◌++◌, take, drop, subst, sym, ap, ◌∙◌, append_assoc}, lemmas.List.{take-append-drop, drop-drop}}
use Rattle.std.specs.Prelude.{Some}
use Rattle.gx_units.proofs.Lists_hold.{all_next}
use Rattle.gx_history.specs.declared.record.RecordData.{RecordData}
use Rattle.gx_audit_bytes.specs.{declared.version.AuditVersion.AuditVersion, Audits.all_bytes, Reading.record_of, Records.record_bytes}
use Rattle.gx_show.specs.Reading.{AreReadBack}
use Rattle.gx_audit_bytes.proofs.Records_next.{more_bytes, no_bytes}

pub begins : (version : AuditVersion) (left : List ℕ) → all_bytes version [] ++ drop 0 left ≡ left
begins version left = ap (λ (bytes : List ℕ). bytes ++ left) (no_bytes version)

-- one more record of the bytes
pub further : (version : AuditVersion) (records : List RecordData) (r : RecordData) (piece left : List ℕ) (at : ℕ) → all_bytes version records ++ drop at left ≡ left
    → record_bytes version r ≡ piece → piece ≡ take 128 (drop at left) → all_bytes version (records ++ r ∷ []) ++ drop (at + 128) left ≡ left
further version records r piece left at h shows cut =
    ap (λ (front : List ℕ). front ++ drop (at + 128) left)
    (more_bytes version records r ∙ ap (λ (bytes : List ℕ). all_bytes version records ++ bytes) (shows ∙ cut))
    ∙ append_assoc (all_bytes version records) (take 128 (drop at left)) (drop (at + 128) left)
    ∙ ap (λ (rest : List ℕ). all_bytes version records ++ (take 128 (drop at left) ++ rest)) (sym (drop-drop 128 at left))
    ∙ ap (λ (rest : List ℕ). all_bytes version records ++ rest) (take-append-drop 128 (drop at left))
    ∙ h

pub none_read : (version : AuditVersion) (records : List RecordData) → records ≡ [] → AreReadBack version records
none_read version records none = subst (AreReadBack version) (sym none) tt

pub begun : (version : AuditVersion) (records : List RecordData) (left : List ℕ) → records ≡ [] → all_bytes version records ++ drop 0 left ≡ left
begun version records left none = ap (λ (rs : List RecordData). all_bytes version rs ++ left) none ∙ begins version left

-- one more record is the one that its bytes show
pub read_more : (version : AuditVersion) (before after : List RecordData) (r : RecordData) (piece : List ℕ) → AreReadBack version before
    → Some r ≡ record_of version piece → record_bytes version r ≡ piece → after ≡ before ++ r ∷ [] → AreReadBack version after
read_more version before after r piece are shows bytes grown =
    subst (AreReadBack version) (sym grown)
    (all_next (λ (x : RecordData). record_of version (record_bytes version x) ≡ Some x) before r are (ap (record_of version) bytes ∙ sym shows))

pub further_to : (version : AuditVersion) (before after : List RecordData) (r : RecordData) (piece left : List ℕ) (at : ℕ) → all_bytes version before ++ drop at left ≡ left
    → record_bytes version r ≡ piece → piece ≡ take 128 (drop at left) → after ≡ before ++ r ∷ [] → all_bytes version after ++ drop (at + 128) left ≡ left
further_to version before after r piece left at h shows cut grown =
    ap (λ (rs : List RecordData). all_bytes version rs ++ drop (at + 128) left) grown ∙ further version before r piece left at h shows cut
