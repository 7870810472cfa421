-- An event in words.
use Rattle.std.specs.{Prelude.{ℕ, Bool, false, if◌then◌else◌, List, [], ◌++◌, codes, decimal, Option}, Option.option_map_or}
use Rattle.gx_units.specs.declared.names.UserName.{UserName}
use Rattle.gx_desk.specs.declared.Action.{Action}
use Rattle.gx_policy.specs.{RuleNames.written_rule, declared.rule_name.RuleName.RuleName}
use Rattle.gx_text.specs.{Moments.minute_text, Shown.shown_name}
use Rattle.gx_money.specs.Amounts.{dollars_text}
use Rattle.gx_events.specs.{declared.{event.Event.Event, limits.RuleLimit.RuleLimit}, Known.limit_in_entry}

-- a name behind words
abbrev pub of_name : List ℕ → List ℕ → List ℕ
of_name words name = words ++ shown_name name

-- words between two names
abbrev pub words_between : List ℕ → List ℕ → List ℕ → List ℕ
words_between first words second = shown_name first ++ words ++ shown_name second

-- words, a name, words and a name
abbrev pub of_both : List ℕ → List ℕ → List ℕ → List ℕ → List ℕ
of_both front first words second = front ++ words_between first words second

-- a user's name, words and a line
abbrev pub on_line : UserName → List ℕ → ℕ → List ℕ
on_line user words line = shown_name user.bytes ++ words ++ decimal line

-- the rule of which this is known counts money; a rule that is not there does not
abbrev pub is_of_money : Option RuleLimit → Bool
is_of_money earlier = option_map_or (λ (l : RuleLimit). l.is_money) earlier false

-- a limit of this rule: an amount of money in dollars, anything else as a number
abbrev pub limit_text : Option RuleLimit → ℕ → List ℕ
limit_text earlier limit = if is_of_money earlier then dollars_text limit else decimal limit

-- the limit that was in force
abbrev pub from_text : Option RuleLimit → List ℕ
from_text earlier = option_map_or (λ limit. codes " from " ++ limit_text earlier limit) (limit_in_entry earlier) []

-- the limit that is asked for
abbrev pub to_text : Option RuleLimit → ℕ → List ℕ
to_text earlier limit = codes " to " ++ limit_text earlier limit

-- what a granted command did
unfoldable pub done_text : Action → Option RuleLimit → List ℕ
done_text (Action.Kill account) earlier = shown_name account.bytes ++ codes " killed"
done_text (Action.Lift account) earlier = codes "Lift of " ++ shown_name account.bytes ++ codes " given"
done_text (Action.SetLimit rule limit) earlier =
    codes "limit of " ++ shown_name rule.bytes ++ codes " set" ++ from_text earlier ++ to_text earlier limit
done_text (Action.Restrict rule stock) earlier = words_between stock.bytes (codes " restricted under ") rule.bytes
done_text (Action.Unrestrict rule stock) earlier = words_between stock.bytes (codes " unrestricted under ") rule.bytes
done_text (Action.Grant reader account) earlier = words_between account.bytes (codes " granted to ") reader.bytes
done_text (Action.Revoke reader account) earlier = words_between account.bytes (codes " revoked from ") reader.bytes
done_text Action.CloseDay earlier = codes "day closed"

-- what a command asks for
unfoldable pub asked_text : Action → Option RuleLimit → List ℕ
asked_text (Action.Kill account) earlier = of_name (codes "Kill of ") account.bytes
asked_text (Action.Lift account) earlier = of_name (codes "Lift of ") account.bytes
asked_text (Action.SetLimit rule limit) earlier = of_name (codes "Set Limit of ") rule.bytes ++ to_text earlier limit
asked_text (Action.Restrict rule stock) earlier = of_both (codes "Restrict of ") stock.bytes (codes " under ") rule.bytes
asked_text (Action.Unrestrict rule stock) earlier = of_both (codes "Unrestrict of ") stock.bytes (codes " under ") rule.bytes
asked_text (Action.Grant reader account) earlier = of_both (codes "Grant of ") account.bytes (codes " to ") reader.bytes
asked_text (Action.Revoke reader account) earlier = of_both (codes "Revoke of ") account.bytes (codes " from ") reader.bytes
asked_text Action.CloseDay earlier = codes "Close Day"

abbrev pub by_user : UserName → List ℕ
by_user user = of_name (codes " by ") user.bytes

abbrev pub denied_by_text : RuleName → List ℕ
denied_by_text rule = of_name (codes " denied by ") (written_rule rule)

-- so many hundredths are used, and so many are left
abbrev pub used_text : ℕ → List ℕ → ℕ → List ℕ
used_text percent words left = decimal percent ++ words ++ decimal left ++ codes " are left"

-- words, a minute and a count
abbrev pub minute_count : List ℕ → ℕ → ℕ → List ℕ
minute_count words minute count = words ++ minute_text minute ++ codes ": " ++ decimal count

unfoldable pub event_text : Event → List ℕ
event_text (Event.LoggedIn user line) = on_line user (codes " logged in on line ") line
event_text (Event.LoggedOut user line) = on_line user (codes " logged out on line ") line
event_text (Event.LoginDenied user line rule) = codes "login of " ++ on_line user (codes " on line ") line ++ denied_by_text rule
event_text (Event.MoreDenied count minute) = minute_count (codes "more logins denied within the minute of ") minute count
event_text (Event.Commanded user action earlier) = done_text action earlier ++ by_user user
event_text (Event.CommandDenied user action rule earlier) = asked_text action earlier ++ by_user user ++ denied_by_text rule
event_text (Event.RecordsUsed percent left) = used_text percent (codes " % of the day's records are used, ") left
event_text (Event.LinesUsed percent left) = used_text percent (codes " % of the day's lines are used, ") left
