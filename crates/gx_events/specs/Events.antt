-- What the log tells of a record.
use Rattle.std.specs.Prelude.{ℕ, ◌-◌, ◌*◌, ◌==◌, Bool, not, ◌&&◌, if◌then◌else◌, nat_le, nat_lt, List, [], ◌∷◌, find, Option, Some, None, option_and_then, option_map}
use Rattle.gx_units.specs.declared.names.UserName.{UserName}
use Rattle.gx_desk.specs.declared.Action.{Action}
use Rattle.gx_policy.specs.Lists.{where_true}
use Rattle.gx_history.specs.{declared.record.{Asked.Asked, RecordData.RecordData, Request.Request, Verdict.Verdict}, Requests.asked_of, Verdicts.day_limit}
use Rattle.gx_events.specs.{declared.{event.Event.Event, limits.RuleLimit.RuleLimit}, Known.{Known, denied_so_far, entry_named, login_line, minute_of}}

-- a login: a denied one only where it is the first within its minute
abbrev pub login_event : UserName → ℕ → Bool → Verdict → Option Event
login_event user line is_first Verdict.Granted = Some (Event.LoggedIn user line)
login_event user line is_first (Verdict.Denied rule) = where_true is_first (Event.LoginDenied user line rule)
login_event user line is_first other = None

-- a logout that is granted
abbrev pub logout_event : UserName → ℕ → Verdict → Option Event
logout_event user line Verdict.Granted = Some (Event.LoggedOut user line)
logout_event user line other = None

-- a command, granted or denied
abbrev pub command_event : UserName → Option RuleLimit → Action → Verdict → Option Event
command_event user earlier action Verdict.Granted = Some (Event.Commanded user action earlier)
command_event user earlier action (Verdict.Denied rule) = Some (Event.CommandDenied user action rule earlier)
command_event user earlier action other = None

-- what is known of the limit that the command is to change
abbrev pub earlier_limit : Known → Action → Option RuleLimit
earlier_limit known (Action.SetLimit rule limit) = entry_named known.limits rule
earlier_limit known other = None

-- a request: orders and unreadable messages are not told
abbrev pub request_event : Known → Bool → Verdict → UserName → ℕ → Request → Option Event
request_event known is_first verdict user line (Request.Login m) = login_event user line is_first verdict
request_event known is_first verdict user line Request.Logout = logout_event user line verdict
request_event known is_first verdict user line (Request.Command c) = command_event user (earlier_limit known c.action) c.action verdict
request_event known is_first verdict user line other = None

-- no login was denied so far within the minute of the record
abbrev pub is_first_within : Known → RecordData → Bool
is_first_within known r = denied_so_far known (minute_of r.moment) == 0

-- what is told of the record itself
abbrev pub own_event : Known → RecordData → Option Event
own_event known r =
    option_and_then (λ (a : Asked). request_event known (is_first_within known r) r.verdict a.user a.line a.request) (asked_of r.step)

-- how many more logins were denied within the minute of the last record
abbrev pub untold_denials : Known → Option Event
untold_denials known = where_true (nat_lt 1 known.denied) (Event.MoreDenied (known.denied - 1) (minute_of known.moment))

-- this is told with the first record of another minute
abbrev pub more_denied : Known → RecordData → Option Event
more_denied known r = if minute_of known.moment == minute_of r.moment then None else untold_denials known

-- so many hundredths of the most
abbrev pub is_reached : ℕ → ℕ → ℕ → Bool
is_reached most percent now = nat_le (percent * most) (now * 100)

-- the hundredths that are told
abbrev pub percentages : List ℕ
percentages = 99 ∷ 90 ∷ 75 ∷ 50 ∷ []

-- the most of them that are reached now, and were not before
abbrev pub newly_reached : ℕ → ℕ → ℕ → Option ℕ
newly_reached most before now = find (λ percent. is_reached most percent now && not (is_reached most percent before)) percentages

-- how full the day is, where the number of the record is the first at so many hundredths of its records
abbrev pub records_used : RecordData → Option Event
records_used r =
    option_map (λ percent. Event.RecordsUsed percent (day_limit - r.number)) (newly_reached day_limit (r.number - 1) r.number)

-- the most lines that a day may have
abbrev pub line_limit : ℕ
line_limit = 65535

-- a login on the first line at so many hundredths of them
abbrev pub used_at : ℕ → ℕ → Option Event
used_at highest line =
    option_map (λ percent. Event.LinesUsed percent (line_limit - line)) (newly_reached line_limit highest line)

abbrev pub lines_used : Known → RecordData → Option Event
lines_used known r = option_and_then (used_at known.highest) (login_line r)
