-- What officers asked for, and what stood in front of it.
use Rattle.gx_history.specs.{Requests.{denied_by, action_of, asked_of}, declared.«record».{Asked.Asked, RecordData.RecordData}, InForce.is_killed}
use Rattle.std.specs.{Prelude.{ℕ, Bool, List, Option, Some, None, option_and_then, option_map}, List.filter_map}
use Rattle.gx_units.specs.declared.names.UserName.{UserName}
use Rattle.gx_desk.specs.declared.Action.{Action}
use Rattle.gx_policy.specs.{declared.policy.PolicyData.PolicyData, Lists.each_with_earlier}
use Rattle.gx_records.specs.State.{limit_in_force}
use Rattle.gx_endings.specs.declared.commands.CommandRow.{CommandRow}

-- of a Set Limit, the limit of its rule that was in force after these records
abbrev pub limit_before : PolicyData → List RecordData → Action → Option ℕ
limit_before policy earlier (Action.SetLimit rule limit) = limit_in_force policy earlier rule
limit_before policy earlier other = None

-- of a Kill or a Lift, whether its account was killed after these records
abbrev pub was_killed : PolicyData → List RecordData → Action → Option Bool
was_killed policy earlier (Action.Kill account) = Some (is_killed policy earlier account)
was_killed policy earlier (Action.Lift account) = Some (is_killed policy earlier account)
was_killed policy earlier other = None

-- the command with this action that the record shows, and what stood in front of it
abbrev pub command_row : PolicyData → List RecordData → RecordData → UserName → Action → CommandRow
command_row policy earlier r officer action = record {
  number = r.number;
  moment = r.moment;
  officer = officer;
  action = action;
  denied_by = denied_by r.verdict;
  limit_before = limit_before policy earlier action;
  was_killed = was_killed policy earlier action;
}

-- the command that was asked for, if this request is one
abbrev pub command_asked : PolicyData → List RecordData → RecordData → Asked → Option CommandRow
command_asked policy earlier r a = option_map (command_row policy earlier r a.user) (action_of a.request)

-- the command that the record shows, if it shows one
abbrev pub command_by : PolicyData → List RecordData → RecordData → Option CommandRow
command_by policy earlier r = option_and_then (command_asked policy earlier r) (asked_of r.step)

-- all commands, granted or denied, in their order
abbrev pub command_rows : PolicyData → List RecordData → List CommandRow
command_rows policy records = filter_map (λ (entry : List RecordData × RecordData). command_by policy entry.0 entry.1) (each_with_earlier records)
