-- The day that the gate's tables stand for.
use Rattle.std.specs.Prelude.{ℕ, Bool, List, [], ◌∷◌, map, Option, option_map}
use Rattle.gx_units.specs.declared.names.{AccountName.AccountName, UserName.UserName}
use Rattle.gx_policy.specs.declared.policy.Lifters.{Lifters}
use Rattle.gx_trading_status.specs.{declared.status.Kill.Kill, StatusData.{AccountKill, TradingStatusData, UserLine}}

-- the user and the line of an entry
abbrev pub line_entry : UserName × Option ℕ → UserLine
line_entry entry = record { user = entry.0; line = entry.1 }

-- the users and the lines of the entries
abbrev pub lines_of : List (UserName × Option ℕ) → List UserLine
lines_of entries = map line_entry entries

-- who has lifted the account since
abbrev pub lifted_by : Kill → List UserName
lifted_by Kill.Whole = []
lifted_by (Kill.LiftedBy officer) = officer ∷ []

-- the account and the Kill of an entry
abbrev pub kill_entry : AccountName × Option Kill → AccountKill
kill_entry entry = record { account = entry.0; kill = option_map lifted_by entry.1 }

-- the accounts and the Kills of the entries
abbrev pub kills_of : List (AccountName × Option Kill) → List AccountKill
kills_of entries = map kill_entry entries

-- the day of these tables, closed or not, at this moment
abbrev pub day_of : Lifters → List (UserName × Option ℕ) → List (AccountName × Option Kill) → Bool → ℕ → TradingStatusData
day_of lifters lines kills closed moment = record { lifters = lifters; lines = lines_of lines; kills = kills_of kills; closed = closed; moment = moment }
