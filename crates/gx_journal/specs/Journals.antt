-- What a journal keeps of a day.
use Rattle.gx_devices.specs.{declared.write.WriteFailed.WriteFailed, Devices.IsFront}
use Rattle.std.specs.{Prelude.{◌≡◌, ℕ, ◌≤◌, max, List, length, take, drop, [], Bool, Option, Some, None, IsTrue, IsFalse, is_some}, Io.KnownBytes.append_known}
use Rattle.gx_history.specs.declared.record.RecordData.{RecordData}
use Rattle.gx_audit_bytes.specs.{declared.version.AuditVersion.AuditVersion, Audits.all_bytes}
use Rattle.gx_pass.specs.{declared.view.LineView.LineView, Views.line_view}

-- what a device holds, as far as that is known, in which version records are put there, how many of the day's records are on it, how many calls of it have failed, and that no more are put there
pub record JournalWriterData : Type 0 where
  pub contents : Option (List ℕ)
  pub version : AuditVersion
  pub done : ℕ
  pub failed : ℕ
  pub fault : Option WriteFailed

-- so many records are put on the device at once, at most
abbrev pub most_at_once : ℕ
most_at_once = 4096

-- what the journal's pass has met, and the device
pub record JournalData : Type 0 where
  pub met : LineView
  pub writer : JournalWriterData

abbrev pub is_broken : JournalWriterData → Bool
is_broken writer = is_some writer.fault

-- the bytes of records, as a journal of this version has them
abbrev pub journal_bytes : AuditVersion → List RecordData → List ℕ
journal_bytes version records = all_bytes version records

-- the records behind the first `count`, up to those that are done
abbrev pub records_between : ℕ → ℕ → List RecordData → List RecordData
records_between count done records = drop count (take done records)

-- where it is known what was held, this is held: that, and the text behind it
abbrev pub IsGrown : (before after : Option (List ℕ)) → List ℕ → Type 0
IsGrown before after text = IsTrue (is_some before) → after ≡ append_known before text

-- what a pass has met that may be out
abbrev pub met_by : {T : Type 0} → (T → LineView) → Option T → LineView
met_by held (Some pass) = held pass
met_by held None = line_view 0 [] 0

-- how many records were added with a pass that may be out
abbrev pub added_by : {T : Type 0} → (T → ℕ) → Option T → ℕ
added_by records_between (Some pass) = records_between pass
added_by records_between None = 0

-- so many records there are at least, as the pass knows
abbrev pub known_length : LineView → ℕ
known_length h = max h.told (length h.front)

-- The day begins with its earlier records. The device holds what it held at first, and behind it the bytes of the records that are done; once it is broken, a
-- front of the bytes of all records that the pass has met.
pub record IsJournalKept (begun : Option (List ℕ)) (count : ℕ) (earlier : List RecordData) (version : AuditVersion) (j : JournalData) : Type 0 where
  pub version_is : j.writer.version ≡ version
  pub begins : take (length earlier) j.met.front ≡ earlier
  pub first : count ≤ j.writer.done
  pub met : j.writer.done ≤ length j.met.front
  pub whole : IsFalse (is_broken j.writer) → IsGrown begun j.writer.contents (journal_bytes version (records_between count j.writer.done j.met.front))
  pub cut : IsTrue (is_broken j.writer) → ∥ IsFront begun j.writer.contents (journal_bytes version (drop count j.met.front)) ∥₁
