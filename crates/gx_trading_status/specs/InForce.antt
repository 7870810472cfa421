-- What the records say of a day, and what one more of them changes.
use Rattle.std.specs.Prelude.{List, map, false, Some, None}
use Rattle.gx_units.specs.declared.names.UserName.{UserName}
use Rattle.gx_desk.specs.declared.Action.{Action}
use Rattle.gx_policy.specs.declared.policy.{Account.Account, PolicyData.PolicyData, User.User}
use Rattle.gx_history.specs.{declared.{moves.Move.{Move, TheVariants.{Commands, PutsOn}}, «record».RecordData.RecordData}, InForce.{is_closed, kill_in_force, line_of}, Verdicts.last_moment}
use Rattle.gx_trading_status.specs.StatusData.{AccountKill, TradingStatusData, UserLine, closed_day, with_user_line, with_mark}

-- the user on no line
abbrev pub off_line : User → UserLine
off_line u = record { user = u.name; line = None }

-- each user on no line
abbrev pub fresh_lines : PolicyData → List UserLine
fresh_lines policy = map off_line policy.users

-- the account without a kill
abbrev pub without_kill : Account → AccountKill
without_kill a = record { account = a.name; kill = None }

-- no account killed
abbrev pub fresh_kills : PolicyData → List AccountKill
fresh_kills policy = map without_kill policy.accounts

-- the day before any record
abbrev pub fresh_status : PolicyData → TradingStatusData
fresh_status policy = record { lifters = policy.lifters; lines = fresh_lines policy; kills = fresh_kills policy; closed = false; moment = 0 }

-- the user, on the line that the records say
abbrev pub line_now : List RecordData → User → UserLine
line_now history u = record { user = u.name; line = line_of history u.name }

-- the account, with the Kill of it that is in force by the records
abbrev pub kill_now : PolicyData → List RecordData → Account → AccountKill
kill_now policy history a = record { account = a.name; kill = kill_in_force policy history a.name }

-- what the records say of the day, for each of the policy's users and accounts
unfoldable pub status_in_force : PolicyData → List RecordData → TradingStatusData
status_in_force policy history = record {
  lifters = policy.lifters;
  lines = map (line_now history) policy.users;
  kills = map (kill_now policy history) policy.accounts;
  closed = is_closed history;
  moment = last_moment history;
}

-- the day after the officer was granted the command
abbrev pub day_commanded : UserName → Action → TradingStatusData → TradingStatusData
day_commanded officer (Action.Kill account) day = with_mark account None day
day_commanded officer (Action.Lift account) day = with_mark account (Some officer) day
day_commanded officer Action.CloseDay day = closed_day day
day_commanded officer other day = day

-- the day, once a record has done this
abbrev pub status_moved : Move → TradingStatusData → TradingStatusData
status_moved (PutsOn user line) day = with_user_line user line day
status_moved (Commands officer c) day = day_commanded officer c.action day
status_moved other day = day
