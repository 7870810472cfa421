-- Records that are written piece by piece, behind those that were there at first.
use Rattle.gx_units.proofs.Lists_found.{append_regrouped}
use Rattle.std.proofs.{Common.{◌≡◌, ℕ, ◌+◌, ◌-◌, ◌≤◌, List, [], ◌∷◌, ◌++◌, Option, Some, None, length, take, drop, pred, max, min, refl, sym, ap, ◌∙◌, subst, append_assoc, arith}, KnownBytes.{Appends-nil, Appends-trans}, Math.Seq.take-add, lemmas.List.{drop_all, take-append-drop, take_min, take-append-le, drop-append-le, length-take, length-drop}}
use Rattle.std.specs.Io.KnownBytes.{Appends}
use mathlib.Core.List.{IsPrefix}
use Rattle.gx_devices.specs.Devices.{IsFront}
use Rattle.gx_history.specs.declared.record.RecordData.{RecordData}
use Rattle.gx_policy.specs.Lists.{slice}
use Rattle.gx_audit_bytes.specs.{declared.version.AuditVersion.AuditVersion, Audits.all_bytes, Records.record_bytes}
use Rattle.gx_journal.specs.Journals.{records_between, journal_bytes, IsGrown}

no_bytes : (version : AuditVersion) → journal_bytes version [] ≡ []
unfolding all_bytes
no_bytes version = refl

pub all_joined : (version : AuditVersion) (xs ys : List RecordData) → journal_bytes version (xs ++ ys) ≡ journal_bytes version xs ++ journal_bytes version ys
unfolding all_bytes
all_joined version [] ys = refl
all_joined version (x ∷ xs) ys =
    ap (λ (bytes : List ℕ). record_bytes version x ++ bytes) (all_joined version xs ys) ∙ sym (append_assoc (record_bytes version x) (journal_bytes version xs) (journal_bytes version ys))

-- what is known of growing, in either form
pub grown_appends : (before after : Option (List ℕ)) (text : List ℕ) → IsGrown before after text → Appends before after text
grown_appends None after text grown = tt
grown_appends (Some xs) after text grown = subst (λ (o : Option (List ℕ)). Appends (Some xs) o text) (sym (grown refl)) refl

pub appends_grown : (before after : Option (List ℕ)) (text : List ℕ) → Appends before after text → IsGrown before after text
appends_grown None after text a known = absurd (cc known)
appends_grown (Some xs) None text a known = absurd a
appends_grown (Some xs) (Some ys) text a known = ap Some a

-- the records that are done, and the next ones
pub added_more : (count done : ℕ) (records next : List RecordData) → count ≤ done → done ≤ length records → next ≡ take (length next) (drop done records)
    → records_between count (done + length next) records ≡ records_between count done records ++ next
added_more count done records next first met is =
    ap (drop count) (take-add done (length next) records)
    ∙ drop-append-le count (take done records) (take (length next) (drop done records)) (omega (arith, length-take done records))
    ∙ ap (λ (xs : List RecordData). records_between count done records ++ xs) (sym is)

-- those that are done, and all others
pub added_rest : (count done : ℕ) (records : List RecordData) → count ≤ done → done ≤ length records → drop count records ≡ records_between count done records ++ drop done records
added_rest count done records first met =
    ap (drop count) (sym (take-append-drop done records))
    ∙ drop-append-le count (take done records) (drop done records) (omega (arith, length-take done records))

-- records that were met later change nothing of those that were met
pub added_later : (count done : ℕ) (earlier later : List RecordData) → done ≤ length earlier → IsPrefix earlier later → records_between count done later ≡ records_between count done earlier
added_later count done earlier later met (rest, begins) =
    ap (λ (xs : List RecordData). drop count (take done xs)) (sym begins) ∙ ap (drop count) (take-append-le done earlier rest met)

-- the next of the records were put behind those that are done
pub more_appended : (version : AuditVersion) (begun before after : Option (List ℕ)) (count done : ℕ) (records next : List RecordData) → count ≤ done → done ≤ length records → next ≡ take (length next) (drop done records)
    → Appends begun before (journal_bytes version (records_between count done records)) → Appends before after (journal_bytes version next) → Appends begun after (journal_bytes version (records_between count (done + length next) records))
more_appended version begun before after count done records next first met is so_far put =
    let bytes : journal_bytes version (records_between count done records) ++ journal_bytes version next ≡ journal_bytes version (records_between count (done + length next) records) =
    sym (all_joined version (records_between count done records) next) ∙ ap (journal_bytes version) (sym (added_more count done records next first met is)) in
    subst (Appends begun after) bytes (Appends-trans begun before after (journal_bytes version (records_between count done records)) (journal_bytes version next) so_far put)

-- the same, where it is known what was held
pub more_written : (version : AuditVersion) (begun before after : Option (List ℕ)) (count done : ℕ) (records next : List RecordData) → count ≤ done → done ≤ length records → next ≡ take (length next) (drop done records)
    → IsGrown begun before (journal_bytes version (records_between count done records)) → Appends before after (journal_bytes version next) → IsGrown begun after (journal_bytes version (records_between count (done + length next) records))
more_written version begun before after count done records next first met is grown put =
    appends_grown begun after (journal_bytes version (records_between count (done + length next) records))
    (more_appended version begun before after count done records next first met is (grown_appends begun before (journal_bytes version (records_between count done records)) grown) put)

-- what is left begins with the next records
left_is : (version : AuditVersion) (records next : List RecordData) (done : ℕ) → next ≡ take (length next) (drop done records)
    → journal_bytes version (drop done records) ≡ journal_bytes version next ++ journal_bytes version (drop (length next) (drop done records))
left_is version records next done is =
    ap (journal_bytes version) (sym (take-append-drop (length next) (drop done records)))
    ∙ all_joined version (take (length next) (drop done records)) (drop (length next) (drop done records))
    ∙ ap (λ (xs : List RecordData). journal_bytes version xs ++ journal_bytes version (drop (length next) (drop done records))) (sym is)

-- a front of the next records was put on the device
pub cut_written : (version : AuditVersion) (begun before after : Option (List ℕ)) (count done : ℕ) (records next : List RecordData) → count ≤ done → done ≤ length records → next ≡ take (length next) (drop done records)
    → IsGrown begun before (journal_bytes version (records_between count done records)) → IsFront before after (journal_bytes version next) → IsFront begun after (journal_bytes version (drop count records))
cut_written version begun before after count done records next first met is grown cut =
    let text = journal_bytes version (records_between count done records) in
    let others = journal_bytes version (drop (length next) (drop done records)) in
    record {
      front = text ++ cut.front;
      rest = cut.rest ++ others;
      written = Appends-trans begun before after text cut.front (grown_appends begun before text grown) cut.written;
      whole =
          ap (journal_bytes version) (added_rest count done records first met)
          ∙ all_joined version (records_between count done records) (drop done records)
          ∙ ap (λ (bytes : List ℕ). text ++ bytes) (left_is version records next done is ∙ ap (λ (bytes : List ℕ). bytes ++ others) cut.whole)
          ∙ append_regrouped text cut.front cut.rest others;
    }

no_records : (count : ℕ) (records : List RecordData) → records_between count count records ≡ []
no_records count records = drop_all count (take count records) (omega (arith, length-take count records))

-- none is written yet
pub none_appended : (version : AuditVersion) (begun : Option (List ℕ)) (count : ℕ) (records : List RecordData) → Appends begun begun (journal_bytes version (records_between count count records))
none_appended version begun count records = subst (Appends begun begun) (sym (ap (journal_bytes version) (no_records count records) ∙ no_bytes version)) (Appends-nil begun)

pub none_added : (version : AuditVersion) (begun : Option (List ℕ)) (count : ℕ) (records : List RecordData) → IsGrown begun begun (journal_bytes version (records_between count count records))
none_added version begun count records = appends_grown begun begun (journal_bytes version (records_between count count records)) (none_appended version begun count records)

pub before_next : (done : ℕ) → pred (max 1 (done + 1)) ≡ done
before_next done = grind arith

same_length : (xs piece : List RecordData) (most : ℕ) → piece ≡ take most xs → take most xs ≡ take (length piece) xs
same_length xs piece most cut = sym (take_min most xs) ∙ ap (λ (n : ℕ). take n xs) (sym (length-take most xs) ∙ sym (ap length cut))

-- the records of a piece are the next ones
pub are_next : (records piece : List RecordData) (done most : ℕ) → piece ≡ slice records (done + 1) most → piece ≡ take (length piece) (drop done records)
are_next records piece done most is =
    let cut : piece ≡ take most (drop done records) = is ∙ ap (λ (n : ℕ). take most (drop n records)) (before_next done) in
    cut ∙ same_length (drop done records) piece most cut

-- how many they are
pub piece_size : (records piece : List RecordData) (done most : ℕ) → piece ≡ slice records (done + 1) most → length piece ≡ min most (length records - done)
piece_size records piece done most is =
    ap length is
    ∙ ap (λ (n : ℕ). length (take most (drop n records))) (before_next done)
    ∙ length-take most (drop done records)
    ∙ ap (min most) (length-drop done records)

-- all others were put on the device
pub whole_written : (version : AuditVersion) (begun before after : Option (List ℕ)) (count done : ℕ) (records : List RecordData) → count ≤ done → done ≤ length records
    → IsGrown begun before (journal_bytes version (records_between count done records)) → Appends before after (journal_bytes version (drop done records)) → IsGrown begun after (journal_bytes version (drop count records))
whole_written version begun before after count done records first met grown put =
    let text = journal_bytes version (records_between count done records) in
    let bytes : text ++ journal_bytes version (drop done records) ≡ journal_bytes version (drop count records) =
    sym (all_joined version (records_between count done records) (drop done records)) ∙ ap (journal_bytes version) (sym (added_rest count done records first met)) in
    appends_grown begun after (journal_bytes version (drop count records))
    (subst (Appends begun after) bytes (Appends-trans begun before after text (journal_bytes version (drop done records)) (grown_appends begun before text grown) put))
