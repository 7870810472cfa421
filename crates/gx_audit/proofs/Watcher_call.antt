-- What a watcher is shown behind a step.
use Rattle.std.proofs.{Common.{◌≡◌, ℕ, List, [], ◌∷◌, ◌++◌, take, sym, ap, ◌∙◌, subst, arith}, Math.Seq.take-append_seam, lemmas.{List.length-append, Option.same_Some}}
use Rattle.std.specs.Prelude.{Some}
use Rattle.gx_policy.specs.declared.policy.PolicyData.{PolicyData}
use Rattle.gx_history.specs.declared.record.RecordData.{RecordData}
use Rattle.gx_audit_bytes.specs.{declared.version.AuditVersion.AuditVersion, Reading.record_of}
use Rattle.gx_records.specs.Watching.{earlier_of}
use Rattle.gx_audit.specs.Auditing.{IsOneMore}

-- the record that was added is the one that the bytes show
is_added : (version : AuditVersion) {before after : List RecordData} (bytes : List ℕ) (shown : RecordData) → IsOneMore version before after bytes → record_of version bytes ≡ Some shown
    → after ≡ before ++ shown ∷ []
is_added version {before} bytes shown more shows =
    more.grown
    ∙ ap (λ (r : RecordData). before ++ r ∷ []) (same_Some _ _ (sym more.shown.read_back ∙ ap (record_of version) more.bytes_are ∙ shows))

-- those in front of it are those before
earlier_are : (before after : List RecordData) (r : RecordData) → after ≡ before ++ r ∷ [] → earlier_of after ≡ before
earlier_are before after r grown =
    ap earlier_of grown
    ∙ ap (λ (n : ℕ). take n (before ++ r ∷ [])) (omega (arith, length-append before (r ∷ [])))
    ∙ take-append_seam before (r ∷ [])

-- behind the step it stands last
pub stands_last : (version : AuditVersion) (before after : List RecordData) (bytes : List ℕ) (shown : RecordData) → IsOneMore version before after bytes → record_of version bytes ≡ Some shown
    → after ≡ earlier_of after ++ shown ∷ []
stands_last version before after bytes shown more shows =
    let grown = is_added version bytes shown more shows in
    grown ∙ ap (λ (earlier : List RecordData). earlier ++ shown ∷ []) (sym (earlier_are before after shown grown))

-- and what a watcher expected of it in front of it holds of those in front of it
pub is_expected : (Expects : PolicyData → List RecordData → Type 0) (policy held : PolicyData) (version : AuditVersion) (before after : List RecordData) (bytes : List ℕ) (shown : RecordData)
    → IsOneMore version before after bytes → record_of version bytes ≡ Some shown → held ≡ policy → Expects policy before → Expects held (earlier_of after)
is_expected Expects policy held version before after bytes shown more shows same expected =
    let earlier = earlier_are before after shown (is_added version bytes shown more shows) in
    subst (λ (rs : List RecordData). Expects held rs) (sym earlier) (subst (λ (p : PolicyData). Expects p before) (sym same) expected)
