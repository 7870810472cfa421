-- Whom what concerns: the accounts that are a viewer's.
use Rattle.std.specs.{Prelude.{Bool, true, false, ◌||◌, List, Option, Some}, Option.option_map_or}
use Rattle.gx_units.specs.{Names.same_user, declared.names.{AccountName.AccountName, UserName.UserName}}
use Rattle.gx_desk.specs.declared.Action.{Action}
use Rattle.gx_policy.specs.{declared.policy.{PolicyData.PolicyData, Role.Role}, People.{account_of, covers, role_in}}
use Rattle.gx_history.specs.{declared.record.{Asked.Asked, RecordData.RecordData, Request.Request}, InForce.is_entitled, Requests.asked_of}

-- an officer's are those of his scope, a reader's those that he is entitled to now, and a trader has none to look at
abbrev pub is_his : PolicyData → List RecordData → UserName → Option Role → AccountName → Bool
is_his policy records user (Some (Role.Officer powers scope)) account = covers scope account
is_his policy records user (Some (Role.Reader names)) account = is_entitled policy records user account
is_his policy records user other account = false

-- the viewer is shown the account
abbrev pub is_shown : PolicyData → List RecordData → UserName → AccountName → Bool
is_shown policy records viewer account = is_his policy records viewer (role_in policy.users viewer) account

-- the account that the user trades for, if he trades for one, is the viewer's
abbrev pub is_trader_shown : PolicyData → List RecordData → UserName → UserName → Bool
is_trader_shown policy records viewer user = option_map_or (is_shown policy records viewer) (account_of policy user) false

-- he himself, and the traders of his accounts
abbrev pub is_user_shown : PolicyData → List RecordData → UserName → UserName → Bool
is_user_shown policy records viewer user = same_user user viewer || is_trader_shown policy records viewer user

-- a command that names an account is shown to those whose it is, and any other to all
abbrev pub is_action_shown : PolicyData → List RecordData → UserName → Action → Bool
is_action_shown policy records viewer (Action.Kill account) = is_shown policy records viewer account
is_action_shown policy records viewer (Action.Lift account) = is_shown policy records viewer account
is_action_shown policy records viewer (Action.Grant reader account) = is_shown policy records viewer account
is_action_shown policy records viewer (Action.Revoke reader account) = is_shown policy records viewer account
is_action_shown policy records viewer other = true

-- what a user asked for: a command, or what concerns the account that he trades for
abbrev pub is_request_shown : PolicyData → List RecordData → UserName → UserName → Request → Bool
is_request_shown policy records viewer user (Request.Command c) = is_action_shown policy records viewer c.action
is_request_shown policy records viewer user other = is_trader_shown policy records viewer user

-- the record of such a request
abbrev pub is_record_shown : PolicyData → List RecordData → UserName → RecordData → Bool
is_record_shown policy records viewer r = option_map_or (λ (a : Asked). is_request_shown policy records viewer a.user a.request) (asked_of r.step) false
