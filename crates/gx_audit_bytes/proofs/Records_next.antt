-- Records, written one behind the other.
use Rattle.std.proofs.{Common.{◌≡◌, ℕ, ◌+◌, ◌<◌, List, [], ◌∷◌, ◌++◌, length, take, get_or, refl, sym, ap, ◌∙◌, append_assoc, subst}, lemmas.List.{append-nil, take_more}}
use Rattle.gx_units.proofs.Lists_hold.{all_next}
use Rattle.gx_history.specs.declared.record.RecordData.{RecordData}
use Rattle.gx_audit_bytes.specs.{declared.version.AuditVersion.AuditVersion, Audits.{all_bytes, AreShown}, Reading.IsRecordShown, Records.record_bytes}

pub no_bytes : (version : AuditVersion) → all_bytes version [] ≡ []
unfolding all_bytes
no_bytes version = refl

pub more_bytes : (version : AuditVersion) (records : List RecordData) (r : RecordData) → all_bytes version (records ++ r ∷ []) ≡ all_bytes version records ++ record_bytes version r
unfolding all_bytes
more_bytes version [] r = append-nil (record_bytes version r)
more_bytes version (first ∷ records) r =
    ap (λ (bytes : List ℕ). record_bytes version first ++ bytes) (more_bytes version records r)
    ∙ sym (append_assoc (record_bytes version first) (all_bytes version records) (record_bytes version r))

-- one more record is written
pub one_more : (version : AuditVersion) (before after : List RecordData) (r : RecordData) (bytes more : List ℕ) → bytes ≡ all_bytes version before → more ≡ bytes ++ record_bytes version r → after ≡ before ++ r ∷ [] → more ≡ all_bytes version after
one_more version before after r bytes more written put grown =
    put ∙ ap (λ (bs : List ℕ). bs ++ record_bytes version r) written ∙ sym (more_bytes version before r) ∙ ap (all_bytes version) (sym grown)

pub one_more_shown : (version : AuditVersion) (before after : List RecordData) (r : RecordData) → AreShown version before → IsRecordShown version r → after ≡ before ++ r ∷ [] → AreShown version after
one_more_shown version before after r are is grown = subst (AreShown version) (sym grown) (all_next (IsRecordShown version) before r are is)

pub one_on : (records : List RecordData) (i : ℕ) (r d : RecordData) → i < length records → r ≡ get_or records i d → take (i + 1) records ≡ take i records ++ r ∷ []
one_on records i r d within is = take_more records i d within ∙ ap (λ (x : RecordData). take i records ++ x ∷ []) (sym is)

-- the next of the records is written
pub bytes_on : (version : AuditVersion) (records : List RecordData) (i : ℕ) (r d : RecordData) (bytes more : List ℕ) → i < length records → r ≡ get_or records i d
    → bytes ≡ all_bytes version (take i records) → more ≡ bytes ++ record_bytes version r → more ≡ all_bytes version (take (i + 1) records)
bytes_on version records i r d bytes more within is written put =
    one_more version (take i records) (take (i + 1) records) r bytes more written put (one_on records i r d within is)

-- the same, behind what stood there before
pub bytes_behind : (version : AuditVersion) (records : List RecordData) (i : ℕ) (r d : RecordData) (before bytes more : List ℕ) → i < length records → r ≡ get_or records i d
    → bytes ≡ before ++ all_bytes version (take i records) → more ≡ bytes ++ record_bytes version r → more ≡ before ++ all_bytes version (take (i + 1) records)
bytes_behind version records i r d before bytes more within is written put =
    put
    ∙ ap (λ (bs : List ℕ). bs ++ record_bytes version r) written
    ∙ append_assoc before (all_bytes version (take i records)) (record_bytes version r)
    ∙ ap (λ (bs : List ℕ). before ++ bs)
    (bytes_on version records i r d (all_bytes version (take i records)) (all_bytes version (take i records) ++ record_bytes version r) within is refl refl)

pub shown_on : (version : AuditVersion) (records : List RecordData) (i : ℕ) (r d : RecordData) → i < length records → r ≡ get_or records i d → AreShown version (take i records) → IsRecordShown version r → AreShown version (take (i + 1) records)
shown_on version records i r d within is are shown = one_more_shown version (take i records) (take (i + 1) records) r are shown (one_on records i r d within is)
