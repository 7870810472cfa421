-- What a journal keeps, call by call.
use Rattle.gx_devices.specs.{declared.write.WriteFailed.WriteFailed, Devices.IsFront}
use Rattle.std.proofs.{Common.{◌≡◌, ℕ, ◌+◌, ◌-◌, ◌<◌, ◌≤◌, Bool, true, false, List, ◌++◌, Option, None, length, take, drop, min, is_some, refl, sym, ap, ◌∙◌, subst, arith}, lemmas.{List.{length-take, length-drop, take_all, take-append-drop, take-append-le}, Bool.both_ways}}
use Rattle.std.specs.Io.KnownBytes.{Appends}
use mathlib.Core.List.{IsPrefix}
use Rattle.gx_history.specs.declared.record.RecordData.{RecordData}
use Rattle.gx_audit_bytes.specs.declared.version.AuditVersion.{AuditVersion}
use Rattle.gx_policy.specs.Lists.{slice}
use Rattle.gx_pass.specs.declared.view.LineView.{LineView}
use Rattle.gx_pass.proofs.Lists_prefix.{prefix_length}
use Rattle.gx_journal.specs.Journals.{records_between, is_broken, journal_bytes, known_length, IsGrown, IsJournalKept, JournalData, JournalWriterData}
use Rattle.gx_journal.proofs.Journal_next.{added_later, are_next, cut_written, more_written, none_added, piece_size}

pub sound_of : (writer : JournalWriterData) → writer.fault ≡ None → is_broken writer ≡ false
sound_of writer none = ap (λ (f : Option WriteFailed). is_some f) none

abbrev pub journal : LineView → JournalWriterData → JournalData
journal met writer = record { met = met; writer = writer }

-- the earlier records are a beginning of those that were met
pub earlier_begin : (earlier records : List RecordData) → take (length earlier) records ≡ earlier → IsPrefix earlier records
earlier_begin earlier records begins = (drop (length earlier) records, ap (λ (rs : List RecordData). rs ++ drop (length earlier) records) (sym begins) ∙ take-append-drop (length earlier) records)

begins_later : (earlier was is : List RecordData) → take (length earlier) was ≡ earlier → IsPrefix was is → take (length earlier) is ≡ earlier
begins_later earlier was is begins later =
    let longer = prefix_length earlier was (earlier_begin earlier was begins) in
    ap (take (length earlier)) (sym later.1) ∙ take-append-le (length earlier) was later.0 longer ∙ begins

-- nothing is written yet
pub kept_begun : (begun : Option (List ℕ)) (count : ℕ) (earlier : List RecordData) (version : AuditVersion) (met : LineView) (writer : JournalWriterData) → met.front ≡ earlier → count ≤ length earlier → writer.contents ≡ begun → writer.done ≡ count → writer.fault ≡ None → writer.version ≡ version → IsJournalKept begun count earlier version (journal met writer)
kept_begun begun count earlier version met writer same within held done none is = record {
  version_is = is;
  begins = ap (take (length earlier)) same ∙ take_all (length earlier) earlier (omega arith);
  first = omega (arith, done);
  met = omega (arith, done, within, ap (λ (rs : List RecordData). length rs) same);
  whole = λ sound.
      subst (λ (o : Option (List ℕ)). IsGrown begun o (journal_bytes version (records_between count writer.done met.front))) (sym held)
      (subst (λ (n : ℕ). IsGrown begun begun (journal_bytes version (records_between count n met.front))) (sym done) (none_added version begun count met.front));
  cut = λ broken. absurd (both_ways (is_broken writer) (sound_of writer none) broken);
}

-- the pass has met more
pub kept_later : (begun : Option (List ℕ)) (count : ℕ) {earlier : List RecordData} (version : AuditVersion) (was is : LineView) (writer : JournalWriterData) → is_broken writer ≡ false → IsPrefix was.front is.front → IsJournalKept begun count earlier version (journal was writer) → IsJournalKept begun count earlier version (journal is writer)
kept_later begun count {earlier} version was is writer sound begins kept = record {
  version_is = kept.version_is;
  begins = begins_later earlier was.front is.front kept.begins begins;
  first = kept.first;
  met = omega (arith, kept.met, prefix_length was.front is.front begins);
  whole = λ s.
      subst (λ (rs : List RecordData). IsGrown begun writer.contents (journal_bytes version rs)) (sym (added_later count writer.done was.front is.front kept.met begins)) (kept.whole s);
  cut = λ broken. absurd (both_ways (is_broken writer) sound broken);
}

-- of a put of records, by its answer
pub record WasPut (answer : Bool) (records : List RecordData) (was is : JournalWriterData) : Type 0 where
  pub sound : answer ≡ true → is.fault ≡ None
  pub whole : answer ≡ true → Appends was.contents is.contents (journal_bytes was.version records)
  pub done : answer ≡ true → is.done ≡ was.done + length records
  pub broken : answer ≡ false → is_broken is ≡ true
  pub front : answer ≡ false → IsFront was.contents is.contents (journal_bytes was.version records)
  pub stays : answer ≡ false → is.done ≡ was.done
  pub version : is.version ≡ was.version

next_fit : (records all : List RecordData) (done : ℕ) → records ≡ take (length records) (drop done all) → done ≤ length all → done + length records ≤ length all
next_fit records all done next met =
    let size : length records ≡ min (length records) (length all - done) = ap length next ∙ length-take (length records) (drop done all) ∙ ap (min (length records)) (length-drop done all) in
    omega (arith, size, met)

-- the next records were put on the device, or a front of them
pub kept_put : (begun : Option (List ℕ)) (count : ℕ) {earlier : List RecordData} (version : AuditVersion) (met : LineView) (answer : Bool) {records : List RecordData} (was is : JournalWriterData) → is_broken was ≡ false
    → records ≡ take (length records) (drop was.done met.front) → WasPut answer records was is → IsJournalKept begun count earlier version (journal met was) → IsJournalKept begun count earlier version (journal met is)
kept_put begun count version met true {records} was is sound next put kept =
    let done = put.done refl in
    let fits = next_fit records met.front was.done next kept.met in
    record {
      version_is = put.version ∙ kept.version_is;
      begins = kept.begins;
      first = omega (arith, done, kept.first);
      met = omega (arith, done, fits);
      whole = λ s.
          subst (λ (n : ℕ). IsGrown begun is.contents (journal_bytes version (records_between count n met.front))) (sym done)
          (more_written version begun was.contents is.contents count was.done met.front records kept.first kept.met next (kept.whole sound)
          (subst (λ (v : AuditVersion). Appends was.contents is.contents (journal_bytes v records)) kept.version_is (put.whole refl)));
      cut = λ b. absurd (both_ways (is_broken is) (sound_of is (put.sound refl)) b);
    }
kept_put begun count version met false {records} was is sound next put kept =
    let done = put.stays refl in
    record {
      version_is = put.version ∙ kept.version_is;
      begins = kept.begins;
      first = omega (arith, done, kept.first);
      met = omega (arith, done, kept.met);
      whole = λ s. absurd (both_ways (is_broken is) s (put.broken refl));
      cut = λ b. ∣ cut_written version begun was.contents is.contents count was.done met.front records kept.first kept.met next (kept.whole sound)
          (subst (λ (v : AuditVersion). IsFront was.contents is.contents (journal_bytes v records)) kept.version_is (put.front refl)) ∣₁;
    }

-- A piece of the records behind those that are done.

-- the pass has met more, and of that the next records were put on the device, or a front of them
pub kept_on : (begun : Option (List ℕ)) (count : ℕ) {earlier : List RecordData} (version : AuditVersion) (met later : LineView) (most : ℕ) (answer : Bool) {records : List RecordData} (was is : JournalWriterData) → is_broken was ≡ false
    → IsPrefix met.front later.front → records ≡ slice later.front (was.done + 1) most → WasPut answer records was is → IsJournalKept begun count earlier version (journal met was) → IsJournalKept begun count earlier version (journal later is)
kept_on begun count version met later most answer {records} was is sound begins piece put kept =
    kept_put begun count version later answer was is sound (are_next later.front records was.done most piece) put
    (kept_later begun count version met later was sound begins kept)

-- there are some, and not too many
pub some_next : (was is : LineView) (records : List RecordData) (count done most : ℕ) → count ≤ known_length was → done < count → 0 < most → length was.front ≤ length is.front → was.told ≤ length is.front
    → records ≡ slice is.front (done + 1) most → 0 < length records
some_next was is records count done most known left some longer told piece = omega (arith, piece_size is.front records done most piece, known, left, some, longer, told)

pub few_next : (records all : List RecordData) (done most : ℕ) → records ≡ slice all (done + 1) most → length records ≤ most
few_next records all done most piece = omega (arith, piece_size all records done most piece)

-- as many are known still
pub known_later : (was is : LineView) (count : ℕ) → count ≤ known_length was → length was.front ≤ length is.front → was.told ≤ length is.front → count ≤ known_length is
known_later was is count known longer told = omega (arith, known, longer, told)

pub all_known : (h : LineView) (count done : ℕ) → h.told ≤ count → length h.front ≤ count → count ≤ done → known_length h ≤ done
all_known h count done told front written = omega (arith, told, front, written)
