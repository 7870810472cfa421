-- An audit, written piece by piece.
use Rattle.gx_units.proofs.Lists_found.{append_regrouped}
use Rattle.std.proofs.{Common.{◌≡◌, ℕ, ◌+◌, false, List, [], ◌∷◌, ◌++◌, Option, take, drop, refl, sym, ap, ◌∙◌, subst, append_assoc}, KnownBytes.{Appends-nil, Appends-trans}, Math.Seq.take-add, lemmas.List.take-append-drop}
use Rattle.std.specs.Io.KnownBytes.{Appends}
use Rattle.gx_devices.specs.Devices.{IsFront}
use Rattle.gx_policy.specs.declared.policy.PolicyData.{PolicyData}
use Rattle.gx_audit_bytes.specs.{Headers.front_of, Versions.has_header, declared.version.AuditVersion.AuditVersion, Audits.all_bytes, Records.record_bytes}
use Rattle.gx_audit.proofs.Header_call.{no_front}
use Rattle.gx_history.specs.declared.record.RecordData.{RecordData}
use Rattle.gx_audit_bytes.proofs.Records_next.{no_bytes}

all_joined : (version : AuditVersion) (xs ys : List RecordData) → all_bytes version (xs ++ ys) ≡ all_bytes version xs ++ all_bytes version ys
unfolding all_bytes
all_joined version [] ys = refl
all_joined version (x ∷ xs) ys =
    ap (λ (bytes : List ℕ). record_bytes version x ++ bytes) (all_joined version xs ys) ∙ sym (append_assoc (record_bytes version x) (all_bytes version xs) (all_bytes version ys))

-- nothing is written yet
pub none_written : (version : AuditVersion) (output : Option (List ℕ)) → Appends output output (all_bytes version [])
none_written version output = subst (Appends output output) (sym (no_bytes version)) (Appends-nil output)

-- one more piece is written
pub piece_written : (version : AuditVersion) (a b c : Option (List ℕ)) (records piece : List RecordData) (done size upto : ℕ) → piece ≡ take size (drop done records) → done + size ≡ upto
    → Appends a b (all_bytes version (take done records)) → Appends b c (all_bytes version piece) → Appends a c (all_bytes version (take upto records))
piece_written version a b c records piece done size upto is at so_far more =
    let both : all_bytes version (take done records) ++ all_bytes version piece ≡ all_bytes version (take upto records) =
    ap (λ (p : List RecordData). all_bytes version (take done records) ++ all_bytes version p) is
    ∙ sym (all_joined version (take done records) (take size (drop done records))) ∙ ap (all_bytes version) (sym (take-add done size records)) ∙ ap (λ (n : ℕ). all_bytes version (take n records)) at in
    subst (Appends a c) both (Appends-trans a b c (all_bytes version (take done records)) (all_bytes version piece) so_far more)

-- a front of one more piece is written
pub piece_cut : (version : AuditVersion) (a b c : Option (List ℕ)) (records piece : List RecordData) (done size : ℕ) → piece ≡ take size (drop done records) → Appends a b (all_bytes version (take done records))
    → IsFront b c (all_bytes version piece) → IsFront a c (all_bytes version records)
piece_cut version a b c records piece done size is so_far cut = record {
  front = all_bytes version (take done records) ++ cut.front;
  rest = cut.rest ++ all_bytes version (drop size (drop done records));
  written = Appends-trans a b c (all_bytes version (take done records)) cut.front so_far cut.written;
  whole =
      ap (all_bytes version) (sym (take-append-drop done records))
      ∙ all_joined version (take done records) (drop done records)
      ∙ ap (λ (bytes : List ℕ). all_bytes version (take done records) ++ bytes) left_is
      ∙ append_regrouped (all_bytes version (take done records)) cut.front cut.rest (all_bytes version (drop size (drop done records)));
}
  where
    left_is : all_bytes version (drop done records) ≡ (cut.front ++ cut.rest) ++ all_bytes version (drop size (drop done records))
    left_is =
        ap (all_bytes version) (sym (take-append-drop size (drop done records)))
        ∙ all_joined version (take size (drop done records)) (drop size (drop done records))
        ∙ ap (λ (bytes : List ℕ). bytes ++ all_bytes version (drop size (drop done records))) (ap (all_bytes version) (sym is) ∙ cut.whole)

-- the records are written behind the front
pub behind_front : (a b c : Option (List ℕ)) (front bytes : List ℕ) → Appends a b front → Appends b c bytes → Appends a c (front ++ bytes)
behind_front a b c front bytes begun more = Appends-trans a b c front bytes begun more

-- the front is cut short
pub front_cut : (a b : Option (List ℕ)) (front bytes : List ℕ) → IsFront a b front → IsFront a b (front ++ bytes)
front_cut a b front bytes cut = record {
  front = cut.front;
  rest = cut.rest ++ bytes;
  written = cut.written;
  whole = ap (λ (begun : List ℕ). begun ++ bytes) cut.whole ∙ append_assoc cut.front cut.rest bytes;
}

-- the records are cut short
pub records_cut : (a b c : Option (List ℕ)) (front bytes : List ℕ) → Appends a b front → IsFront b c bytes → IsFront a c (front ++ bytes)
records_cut a b c front bytes begun cut = record {
  front = front ++ cut.front;
  rest = cut.rest;
  written = Appends-trans a b c front cut.front begun cut.written;
  whole = ap (λ (more : List ℕ). front ++ more) cut.whole ∙ sym (append_assoc front cut.front cut.rest);
}

-- nothing stands in front
pub no_front_written : (version : AuditVersion) (policy : PolicyData) (output : Option (List ℕ)) → has_header version ≡ false → Appends output output (front_of version policy)
no_front_written version policy output none = subst (Appends output output) (sym (no_front version policy none)) (Appends-nil output)
