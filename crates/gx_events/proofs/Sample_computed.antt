-- The lines of the sample day, computed.
use Rattle.std.proofs.Common.{refl}
use Rattle.std.specs.Fmt.{digits}
use Rattle.gx_history.specs.InForce.{rules_in_force}
use Rattle.gx_money.specs.Amounts.{dollars_text}
use Rattle.gx_text.specs.Moments.{minute_text, moment_text}
use Rattle.gx_events.specs.{Known.known_of, Words.{asked_text, done_text, event_text}, Fields.{event_fields, named_fields}, Lines.event_line, Sample.{CommandsAreTold, CommandsAreToldInJson, FullDaysAreTold, PeopleAreTold, PeopleAreToldInJson, ValuesAreTold, ValuesAreToldInJson}}

pub people_are_told : PeopleAreTold
unfolding digits rules_in_force minute_text moment_text known_of asked_text done_text event_text event_line
people_are_told = refl

pub people_are_told_in_json : PeopleAreToldInJson
unfolding digits rules_in_force minute_text moment_text known_of event_fields named_fields event_line
people_are_told_in_json = refl

pub commands_are_told : CommandsAreTold
unfolding digits rules_in_force minute_text moment_text known_of asked_text done_text event_text event_line
commands_are_told = refl

pub commands_are_told_in_json : CommandsAreToldInJson
unfolding digits rules_in_force minute_text moment_text known_of event_fields named_fields event_line
commands_are_told_in_json = refl

pub values_are_told : ValuesAreTold
unfolding digits rules_in_force minute_text moment_text known_of asked_text done_text event_text event_line dollars_text
values_are_told = refl

pub values_are_told_in_json : ValuesAreToldInJson
unfolding digits rules_in_force minute_text moment_text known_of event_fields named_fields event_line
values_are_told_in_json = refl

pub full_days_are_told : FullDaysAreTold
unfolding digits rules_in_force minute_text moment_text known_of asked_text done_text event_text event_line
full_days_are_told = refl
