-- An event as the fields of a JSON object.
use Rattle.gx_desk.specs.{Names.command_word, declared.Action.Action}
use Rattle.std.specs.Prelude.{ℕ, List, [], ◌++◌, codes, decimal, Option, Some, None}
use Rattle.gx_policy.specs.RuleNames.{written_rule}
use Rattle.gx_text.specs.{Moments.minute_text, Shown.json_name}
use Rattle.gx_events.specs.{declared.event.Event.Event, Known.limit_in_entry}

-- a event_key, behind what stands in front of it
abbrev pub event_key : List ℕ → List ℕ
event_key word = codes ",\"" ++ word ++ codes "\":"

abbrev pub name_field : List ℕ → List ℕ → List ℕ
name_field word name = event_key word ++ json_name name

abbrev pub minute_field : ℕ → List ℕ
minute_field minute = event_key (codes "minute") ++ codes "\"" ++ minute_text minute ++ codes "\""

abbrev pub number_field : List ℕ → ℕ → List ℕ
number_field word number = event_key word ++ decimal number

-- the value of the event_key `event`
abbrev pub event_field : List ℕ → List ℕ
event_field word = codes ",\"event\":\"" ++ word ++ codes "\""

abbrev pub from_field : Option ℕ → List ℕ
from_field None = []
from_field (Some limit) = number_field (codes "from") limit

-- what a command names
unfoldable pub named_fields : Action → Option ℕ → List ℕ
named_fields (Action.Kill account) earlier = name_field (codes "account") account.bytes
named_fields (Action.Lift account) earlier = name_field (codes "account") account.bytes
named_fields (Action.SetLimit rule limit) earlier = name_field (codes "rule") rule.bytes ++ from_field earlier ++ number_field (codes "to") limit
named_fields (Action.Restrict rule stock) earlier = name_field (codes "rule") rule.bytes ++ name_field (codes "stock") stock.bytes
named_fields (Action.Unrestrict rule stock) earlier = name_field (codes "rule") rule.bytes ++ name_field (codes "stock") stock.bytes
named_fields (Action.Grant reader account) earlier = name_field (codes "reader") reader.bytes ++ name_field (codes "account") account.bytes
named_fields (Action.Revoke reader account) earlier = name_field (codes "reader") reader.bytes ++ name_field (codes "account") account.bytes
named_fields Action.CloseDay earlier = []

-- the event, the user and the line
abbrev pub login_fields : List ℕ → List ℕ → ℕ → List ℕ
login_fields word user line = event_field word ++ name_field (codes "user") user ++ number_field (codes "line") line

-- the event, the minute and the count
abbrev pub count_fields : List ℕ → ℕ → ℕ → List ℕ
count_fields word minute count = event_field word ++ minute_field minute ++ number_field (codes "count") count

-- how many hundredths are used, and how many are left
abbrev pub used_fields : List ℕ → ℕ → ℕ → List ℕ
used_fields word percent left = event_field word ++ number_field (codes "percent") percent ++ number_field (codes "left") left

unfoldable pub event_fields : Event → List ℕ
event_fields (Event.LoggedIn user line) = login_fields (codes "login") user.bytes line
event_fields (Event.LoggedOut user line) = login_fields (codes "logout") user.bytes line
event_fields (Event.LoginDenied user line rule) =
    login_fields (codes "login_denied") user.bytes line ++ name_field (codes "denied_by") (written_rule rule)
event_fields (Event.MoreDenied count minute) = count_fields (codes "more_logins_denied") minute count
event_fields (Event.Commanded user action earlier) =
    event_field (command_word action) ++ name_field (codes "user") user.bytes ++ named_fields action (limit_in_entry earlier)
event_fields (Event.CommandDenied user action rule earlier) =
    event_field (command_word action ++ codes "_denied") ++ name_field (codes "user") user.bytes ++ named_fields action None
    ++ name_field (codes "denied_by") (written_rule rule)
event_fields (Event.RecordsUsed percent left) = used_fields (codes "records_used") percent left
event_fields (Event.LinesUsed percent left) = used_fields (codes "lines_used") percent left
