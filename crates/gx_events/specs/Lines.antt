-- The lines of the log.
use Rattle.std.specs.{Prelude.{ℕ, Bool, true, false, if◌then◌else◌, List, [], ◌++◌, codes, decimal, flat_map, Option}, Option.option_map_or}
use Rattle.gx_policy.specs.{declared.policy.PolicyData.PolicyData, Lists.each_after}
use Rattle.gx_history.specs.declared.record.RecordData.{RecordData}
use Rattle.gx_text.specs.{Moments.moment_text, declared.{moments.Decimals.TheVariants.{Six, Nine}, form.Form.{Form, TheVariants.{Text, Json}}}}
use Rattle.gx_events.specs.{declared.event.Event.Event, Known.{Known, known_of}, Events.{own_event, more_denied, records_used, lines_used, untold_denials}, Words.event_text, Fields.{event_fields, number_field}}

-- the event is this record's, and not of the minute before it
abbrev pub is_of_record : Event → Bool
is_of_record (Event.MoreDenied count minute) = false
is_of_record other = true

-- the number of the record, where the event is the record's
abbrev pub record_text : Event → ℕ → List ℕ
record_text event number = if is_of_record event then codes ", record " ++ decimal number else []

abbrev pub record_field : Event → ℕ → List ℕ
record_field event number = if is_of_record event then number_field (codes "record") number else []

-- an event, told at this moment with the record of this number
unfoldable pub event_line : Form → (moment number : ℕ) → Event → List ℕ
event_line Text moment number event = moment_text Six moment ++ codes " " ++ event_text event ++ record_text event number ++ codes "\n"
event_line Json moment number event =
    codes "{\"at\":\"" ++ moment_text Nine moment ++ codes "\"" ++ event_fields event ++ record_field event number ++ codes "}\n"

-- the line of an event, if there is one
abbrev pub maybe_line : Form → (moment number : ℕ) → Option Event → List ℕ
maybe_line form moment number event = option_map_or (event_line form moment number) event []

-- the lines of a record, by what is known of the records before it
abbrev pub record_lines : Form → Known → RecordData → List ℕ
record_lines form known r =
    maybe_line form r.moment r.number (more_denied known r) ++ maybe_line form r.moment r.number (own_event known r)
    ++ maybe_line form r.moment r.number (lines_used known r) ++ maybe_line form r.moment r.number (records_used r)

-- the lines of a record behind those before it
abbrev pub lines_of_record : Form → PolicyData → List RecordData → RecordData → List ℕ
lines_of_record form policy before r = record_lines form (known_of policy before) r

-- the lines of these records behind those before them
abbrev pub lines_behind : Form → PolicyData → List RecordData → List RecordData → List ℕ
lines_behind form policy before records = flat_map (λ (e : List RecordData × RecordData). lines_of_record form policy e.0 e.1) (each_after before records)

-- the log of a day
abbrev pub log_of : Form → PolicyData → List RecordData → List ℕ
log_of form policy records = lines_behind form policy [] records

-- where the log ends: how many more logins were denied within the minute of its last record, at the moment of this one
abbrev pub closing_line : Form → Known → List ℕ
closing_line form known = maybe_line form known.moment 0 (untold_denials known)

-- the form of a log, and what it knows of the records that were told or passed over
pub record LogState : Type 0 where
  pub form : Form
  pub known : Known
