use Rattle.gx_events.proofs.Sample_computed.{commands_are_told, commands_are_told_in_json, full_days_are_told, people_are_told, people_are_told_in_json, values_are_told, values_are_told_in_json}
use Rattle.gx_events.proofs.laws.a_sample_day_is_told.Goals as goal

pub returns : goal.returns
returns c = record {
  people = people_are_told;
  people_in_json = people_are_told_in_json;
  commands = commands_are_told;
  commands_in_json = commands_are_told_in_json;
  values = values_are_told;
  values_in_json = values_are_told_in_json;
  full_days = full_days_are_told;
}
