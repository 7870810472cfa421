-- The streams that the tables stand for.
use Rattle.std.specs.{Prelude.{◌≡◌, ◌<◌, ℕ, IsTrue, List, [], length, map}, Option.option_map_or, List.{AllByRecursion, find, slice_get}}
use Rattle.gx_units.specs.declared.names.UserName.{UserName}
use Rattle.gx_ouch.specs.declared.{outbound.Outbound.Outbound, letters.EventCode.EventCode}
use Rattle.gx_history.specs.declared.report.{Message.Message, Report.Report}
use Rattle.gx_streams.specs.{declared.{fill.ReportedFill.ReportedFill, stored_report.StoredReport.StoredReport}, Fills.executed_report, Kept.{ReservedList, UserList, is_known, items_in}, Spans.{ReaderSpans, IsSound, copies_in, is_named}, Streams.{AllStreams, ReaderMask}}

-- the user of an entry
abbrev pub user_list : UserName × ReservedList StoredReport → UserList StoredReport
user_list e = record { user = e.0; kept = e.1 }

-- the users of the entries
abbrev pub lists_of : List (UserName × ReservedList StoredReport) → List (UserList StoredReport)
lists_of es = map user_list es

-- stands for a fill that is not there, which no entry names
abbrev pub no_report : Report
no_report = record { timestamp = 0; message = Message.Order (Outbound.SystemEvent EventCode.EndOfDay) }

-- the report that an entry stands for
abbrev pub report_stored : List ReportedFill → StoredReport → Report
report_stored fills (StoredReport.Typed report) = report
report_stored fills (StoredReport.Filled place party) = option_map_or (λ (f : ReportedFill). executed_report f party) (slice_get fills place) no_report

-- the fill of the entry, if it has one, is there
abbrev pub IsFillThere : ℕ → StoredReport → Type 0
IsFillThere count (StoredReport.Typed report) = Unit {0}
IsFillThere count (StoredReport.Filled place party) = place < count

-- the reports that entries stand for
abbrev pub kept_reports : List ReportedFill → ReservedList StoredReport → ReservedList Report
kept_reports fills kept = record { items = map (report_stored fills) kept.items; reserved = kept.reserved }

-- the drop copies that a reader's spans stand for; no place is reserved for him
abbrev pub kept_copies : List ReportedFill → ReaderSpans → ReservedList Report
kept_copies fills r = record { items = copies_in fills r.earlier r.current; reserved = 0 }

-- what a user was told: a reader his drop copies, any other what his entries stand for
abbrev pub list_shown : List ReportedFill → List ReaderSpans → UserList StoredReport → UserList Report
list_shown fills readers l = record { user = l.user; kept = option_map_or (kept_copies fills) (find (is_named l.user) readers) (kept_reports fills l.kept) }

-- the mask in force of a reader
abbrev pub reader_mask : ReaderSpans → ReaderMask
reader_mask r = record { user = r.user; mask = r.current.mask }

-- the streams that fills, entries and spans stand for
abbrev pub streams_of : List ReportedFill → List (UserList StoredReport) → List ReaderSpans → AllStreams
streams_of fills lists readers = record { lists = map (list_shown fills readers) lists; readers = map reader_mask readers }

-- each entry's fill is there; each reader's spans are sound, and he is one of the users, and has no entry
pub record IsSoundTable (fills : List ReportedFill) (told : List (UserList StoredReport)) (readers : List ReaderSpans) : Type 0 where
  pub there : AllByRecursion (λ (l : UserList StoredReport). AllByRecursion (IsFillThere (length fills)) l.kept.items) told
  pub sound : AllByRecursion (IsSound fills) readers
  pub known : AllByRecursion (λ (r : ReaderSpans). IsTrue (is_known told r.user)) readers
  pub silent : AllByRecursion (λ (r : ReaderSpans). items_in told r.user ≡ []) readers
