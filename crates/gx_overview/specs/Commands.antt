-- The commands that were granted, and the last of them about an account, a limit or a stock.
use Rattle.std.specs.{Prelude.{Bool, true, false, ◌&&◌, List, Option, Some, option_and_then, option_map, if◌then◌else◌}, Option.option_map_or, List.filter_map}
use Rattle.gx_units.specs.Names.{same_account, same_rule, same_stock}
use Rattle.gx_desk.specs.declared.Action.{Action}
use Rattle.gx_policy.specs.Lists.{last_such}
use Rattle.gx_history.specs.{declared.record.{Asked.Asked, RecordData.RecordData, VerdictKind.VerdictKind}, Requests.{action_of, granted_of, is_command}}
use Rattle.gx_overview.specs.declared.commands.{GrantedCommand.GrantedCommand, Subject.Subject}

-- the command that the record shows, if this is what it grants
abbrev pub command_by : RecordData → Asked → Option GrantedCommand
command_by r a = option_map {U = GrantedCommand} (λ (action : Action). record { number = r.number; moment = r.moment; officer = a.user; action = action }) (action_of a.request)

-- the command that the record grants, if it grants one
abbrev pub granted_command : RecordData → Option GrantedCommand
granted_command r = option_and_then (command_by r) (granted_of r)

-- a request was granted
abbrev pub is_grant : Option VerdictKind → Bool
is_grant (Some VerdictKind.Granted) = true
is_grant other = false

-- an officer asked for it
abbrev pub is_officers : Option Asked → Bool
is_officers found = option_map_or (λ (a : Asked). is_command a.request) found false

-- all that were granted, in their order
abbrev pub granted_commands : List RecordData → List GrantedCommand
granted_commands records = filter_map granted_command records

-- a Kill or a Lift of the account, a Set Limit of the rule, or a Restrict of the stock by the rule
abbrev pub is_about : Subject → Action → Bool
is_about (Subject.KillOf account) (Action.Kill named) = same_account named account
is_about (Subject.LiftOf account) (Action.Lift named) = same_account named account
is_about (Subject.LimitOf rule) (Action.SetLimit named limit) = same_rule named rule
is_about (Subject.StockOn rule stock) (Action.Restrict named listed) = same_rule named rule && same_stock listed stock
is_about subject action = false

-- the last of these commands about the subject
abbrev pub last_of : List GrantedCommand → Subject → Option GrantedCommand
last_of commands subject = last_such (λ (c : GrantedCommand). is_about subject c.action) commands

-- the last command about the subject that was granted
abbrev pub last_about : List RecordData → Subject → Option GrantedCommand
last_about records subject = last_of (granted_commands records) subject

-- the last about the subject, once this command has come
abbrev pub last_with : Option GrantedCommand → Subject → GrantedCommand → Option GrantedCommand
last_with last subject c = if is_about subject c.action then Some c else last
