-- What is kept of a day: lines, kills, its end and the clock.
use Rattle.std.specs.{Prelude.{ℕ, Bool, true, List, map, if◌then◌else◌, Option, Some, is_some, option_and_then}, List.find}
use Rattle.gx_units.specs.{Names.{same_account, same_user}, declared.names.{AccountName.AccountName, UserName.UserName}}
use Rattle.gx_policy.specs.declared.policy.Lifters.{Lifters}
use Rattle.gx_history.specs.InForce.{kill_after}

-- a user, and the line that he is logged in on, if he is on one
pub record UserLine : Type 0 where
  pub user : UserName
  pub line : Option ℕ

-- an account, and the Kill of it that is in force: who has lifted it since, if it is killed
pub record AccountKill : Type 0 where
  pub account : AccountName
  pub kill : Option (List UserName)

-- what is kept of a day
pub record TradingStatusData : Type 0 where
  -- how many officers have to lift an account
  pub lifters : Lifters
  -- in the policy's order of users
  pub lines : List UserLine
  -- in the policy's order of accounts
  pub kills : List AccountKill
  -- a Close Day was granted
  pub closed : Bool
  -- that of the last record, in nanoseconds past midnight, or 0
  pub moment : ℕ

-- the line that the user is logged in on; none where he is not known
abbrev pub line_in : TradingStatusData → UserName → Option ℕ
line_in day user = option_and_then (λ (u : UserLine). u.line) (find (λ (u : UserLine). same_user u.user user) day.lines)

-- the Kill of the account that is in force; none where it is not known
abbrev pub kill_in : TradingStatusData → AccountName → Option (List UserName)
kill_in day account = option_and_then (λ (k : AccountKill). k.kill) (find (λ (k : AccountKill). same_account k.account account) day.kills)

-- the account is killed; false where it is not known
abbrev pub killed_in : TradingStatusData → AccountName → Bool
killed_in day account = is_some (kill_in day account)

-- the entry on this line in place of its own, if it is this user's
abbrev pub put_on : UserName → Option ℕ → UserLine → UserLine
put_on user line u = record { user = u.user; line = if same_user u.user user then line else u.line }

-- the day with the user on this line, or on none
abbrev pub with_user_line : UserName → Option ℕ → TradingStatusData → TradingStatusData
with_user_line user line day = record { lifters = day.lifters; lines = map (put_on user line) day.lines; kills = day.kills; closed = day.closed; moment = day.moment }

-- the entry after one more Kill (None) of the account, or Lift of it by this officer
abbrev pub kill_entry_after : Lifters → AccountName → Option UserName → AccountKill → AccountKill
kill_entry_after lifters account mark k = record { account = k.account; kill = if same_account k.account account then kill_after lifters (Some mark) k.kill else k.kill }

-- the day after one more Kill (None) of the account, or Lift of it by this officer
abbrev pub with_mark : AccountName → Option UserName → TradingStatusData → TradingStatusData
with_mark account mark day = record { lifters = day.lifters; lines = day.lines; kills = map (kill_entry_after day.lifters account mark) day.kills; closed = day.closed; moment = day.moment }

-- the day, closed
abbrev pub closed_day : TradingStatusData → TradingStatusData
closed_day day = record { lifters = day.lifters; lines = day.lines; kills = day.kills; closed = true; moment = day.moment }

-- the day at this moment
abbrev pub at_moment : ℕ → TradingStatusData → TradingStatusData
at_moment moment day = record { lifters = day.lifters; lines = day.lines; kills = day.kills; closed = day.closed; moment = moment }
