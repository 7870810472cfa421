-- What is put behind the last record of a day, and what a day that goes on begins with.
use Rattle.gx_devices.specs.declared.write.WriteFailed.{WriteFailed}
use Rattle.std.proofs.{Common.{◌≡◌, ℕ, ◌+◌, ◌≤◌, Bool, false, List, Option, Some, None, length, take, drop, is_some, refl, sym, ap, ◌∙◌, subst, arith}, lemmas.List.{length-take, length-drop}}
use Rattle.std.specs.Io.KnownBytes.{Appends}
use mathlib.Core.List.{IsPrefix}
use Rattle.gx_policy.specs.declared.policy.PolicyData.{PolicyData}
use Rattle.gx_history.specs.declared.record.RecordData.{RecordData}
use Rattle.gx_access_gate.specs.Gates.{GateData}
use Rattle.gx_audit_bytes.specs.declared.version.AuditVersion.{AuditVersion}
use Rattle.gx_door.specs.Acts.{gate_at}
use Rattle.gx_pass.proofs.Lists_prefix.{prefix_length, prefix_trans}
use Rattle.gx_leaving.specs.Logouts.{AddsLogouts, NobodyIsOn}
use Rattle.gx_journal.specs.Journals.{records_between, is_broken, journal_bytes, IsGrown, IsJournalKept, JournalData, JournalWriterData}
use Rattle.gx_journal.proofs.{Journal_call.{earlier_begin, sound_of}, Journal_next.{added_later, more_appended, whole_written}}
use Rattle.gx_shared.specs.GoingOn.{GoesOn}

pub sound_at : (writer : JournalWriterData) (answer : Bool) → answer ≡ is_broken writer → answer ≡ false → writer.fault ≡ None
sound_at writer answer is denied = none_of writer.fault (sym is ∙ denied)
  where
    none_of : (fault : Option WriteFailed) → is_some fault ≡ false → fault ≡ None
    none_of None e = refl
    none_of (Some fault) e = absurd (cc e)

-- the next records were put there
pub rest_put : (version : AuditVersion) (records : List RecordData) (first before after : JournalWriterData) (most : ℕ) → first.done ≤ before.done → before.done + most ≤ length records
    → Appends first.contents before.contents (journal_bytes version (records_between first.done before.done records)) → Appends before.contents after.contents (journal_bytes version (take most (drop before.done records)))
    → after.done ≡ before.done + most → Appends first.contents after.contents (journal_bytes version (records_between first.done after.done records))
rest_put version records first before after most begun left so_far put done =
    let next = take most (drop before.done records) in
    let size : length next ≡ most = length-take most (drop before.done records) ∙ omega (arith, length-drop before.done records, left) in
    subst (λ (n : ℕ). Appends first.contents after.contents (journal_bytes version (records_between first.done n records))) (ap (λ (n : ℕ). before.done + n) size ∙ sym done)
    (more_appended version first.contents before.contents after.contents first.done before.done records next begun (omega (arith, left)) (ap (λ (n : ℕ). take n (drop before.done records)) (sym size)) so_far put)

-- all records of the day are there
pub all_kept : (version : AuditVersion) (begun : Option (List ℕ)) (count : ℕ) {earlier : List RecordData} (j : JournalData) (records : List RecordData) (after : JournalWriterData) → IsJournalKept begun count earlier version j → IsPrefix j.met.front records
    → (after.fault ≡ None → Appends j.writer.contents after.contents (journal_bytes version (drop j.writer.done records))) → (after.fault ≡ None → j.writer.fault ≡ None) → after.fault ≡ None
    → IsGrown begun after.contents (journal_bytes version (drop count records))
all_kept version begun count j records after kept begins put sound none =
    let before = j.writer in
    let longer = prefix_length j.met.front records begins in
    let so_far : IsGrown begun before.contents (journal_bytes version (records_between count before.done records)) =
    subst (λ (rs : List RecordData). IsGrown begun before.contents (journal_bytes version rs)) (sym (added_later count before.done j.met.front records kept.met begins)) (kept.whole (sound_of before (sound none))) in
    whole_written version begun before.contents after.contents count before.done records kept.first (omega (arith, kept.met, longer)) so_far (put none)

-- they begin with the earlier ones
pub earlier_kept : (version : AuditVersion) (begun : Option (List ℕ)) (count : ℕ) {earlier : List RecordData} (j : JournalData) (records : List RecordData) → IsJournalKept begun count earlier version j → IsPrefix j.met.front records → IsPrefix earlier records
earlier_kept version begun count {earlier} j records kept begins = prefix_trans earlier j.met.front records (earlier_begin earlier j.met.front kept.begins) begins

-- a day goes on with logouts
pub day_goes_on : (policy : PolicyData) {records : List RecordData} (gate : GateData) (later : List RecordData) → gate.policy ≡ policy → AddsLogouts 0 records gate.records → NobodyIsOn gate → IsPrefix gate.records later → GoesOn policy records later
day_goes_on policy gate later same logouts off begins = record {
  earlier = gate.records;
  logouts = logouts;
  nobody_on = subst (λ (p : PolicyData). NobodyIsOn (gate_at p gate.records)) same off;
  front = begins;
}
