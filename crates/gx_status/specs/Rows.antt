-- Each row of a view as a JSON object.
use Rattle.gx_desk.specs.{Names.command_word, declared.Action.Action}
use Rattle.std.specs.Prelude.{ℕ, List, ◌++◌, codes, decimal}
use Rattle.gx_text.specs.Shown.{json_name}
use Rattle.gx_policy.specs.{RuleNames.rule_id, declared.{kinds.{ExposureLimit.ExposureLimit, KindName.KindName, OrderLimit.OrderLimit}}}
use Rattle.gx_history.specs.declared.record.{RecordData.RecordData, Request.Request, Step.Step, Verdict.Verdict}
use Rattle.gx_overview.specs.declared.rules.LimitRow.{LimitRow}
use Rattle.gx_board.specs.declared.{accounts.AccountState.AccountState, denied.DeniedRow.DeniedRow, uses.{GrossUse.GrossUse, NetUse.NetUse}}
use Rattle.gx_json.specs.{Parts.{bool_text, first_member, integer_or_null, member, number_or_null, time_text}, Rows.command_text}

-- an account: whether it is killed, by whom and when, who has lifted it since, and what it has live
abbrev pub account_json : AccountState → List ℕ
account_json row =
    first_member (codes "account") (json_name row.account.bytes) ++ member (codes "killed") (bool_text row.killed.is_killed) ++ member (codes "kill") (command_text row.killed.kill)
    ++ member (codes "lift") (command_text row.killed.lift) ++ member (codes "live") (decimal row.orders) ++ codes "}"

-- what the limit of a rule of this kind is counted in; null where it has none that an officer sets
abbrev pub unit_text : KindName → List ℕ
unit_text (KindName.Listed kind) = codes "null"
unit_text (KindName.Plain kind) = codes "null"
unit_text (KindName.Order OrderLimit.Shares) = codes "\"shares\""
unit_text (KindName.Order OrderLimit.Value) = codes "\"dollars/10000\""
unit_text (KindName.Order OrderLimit.Collar) = codes "\"price/10000\""
unit_text (KindName.Exposure ExposureLimit.GrossShares) = codes "\"shares\""
unit_text (KindName.Exposure ExposureLimit.GrossValue) = codes "\"dollars/10000\""
unit_text (KindName.Exposure ExposureLimit.NetShares) = codes "\"shares\""
unit_text KindName.Rate = codes "null"
unit_text KindName.Repeat = codes "null"

-- a rule's limit: its unit, that in force, and that of the file
abbrev pub limit_json : LimitRow → List ℕ
limit_json row =
    first_member (codes "rule") (json_name row.rule.bytes) ++ member (codes "unit") (unit_text row.kind) ++ member (codes "limit") (number_or_null row.limit)
    ++ member (codes "file") (number_or_null row.file) ++ codes "}"

-- what an account has used of the limit of a gross rule
abbrev pub gross_json : GrossUse → List ℕ
gross_json seen =
    first_member (codes "rule") (json_name seen.rule.bytes) ++ member (codes "account") (json_name seen.row.account.bytes) ++ member (codes "used") (number_or_null seen.row.used)
    ++ member (codes "left") (number_or_null seen.row.left) ++ codes "}"

-- of a net rule, in a stock
abbrev pub net_json : NetUse → List ℕ
net_json seen =
    first_member (codes "rule") (json_name seen.rule.bytes) ++ member (codes "account") (json_name seen.account.bytes) ++ member (codes "stock") (json_name seen.row.stock.bytes)
    ++ member (codes "buys") (integer_or_null seen.row.buys) ++ member (codes "sells") (integer_or_null seen.row.sells) ++ codes "}"

-- how often a rule denied a request
abbrev pub denied_json : DeniedRow → List ℕ
denied_json row = first_member (codes "rule") (json_name row.rule.bytes) ++ member (codes "count") (decimal row.count) ++ codes "}"

-- what was asked for, in a word
abbrev pub request_word : Request → List ℕ
request_word (Request.Login m) = codes "login"
request_word Request.Logout = codes "logout"
request_word (Request.Unreadable m) = codes "unreadable"
request_word (Request.Enter m) = codes "enter"
request_word (Request.Replace m) = codes "replace"
request_word (Request.Cancel m) = codes "cancel"
request_word (Request.Command c) = command_word c.action

-- the account, the rule or the stock that it names first
abbrev pub named_by_action : Action → List ℕ
named_by_action (Action.Kill account) = account.bytes
named_by_action (Action.Lift account) = account.bytes
named_by_action (Action.SetLimit rule limit) = rule.bytes
named_by_action (Action.Restrict rule stock) = rule.bytes
named_by_action (Action.Unrestrict rule stock) = rule.bytes
named_by_action (Action.Grant reader account) = account.bytes
named_by_action (Action.Revoke reader account) = account.bytes
named_by_action Action.CloseDay = codes ""

abbrev pub named_by : Request → List ℕ
named_by (Request.Enter m) = m.stock.bytes
named_by (Request.Command c) = named_by_action c.action
named_by other = codes ""

-- the rule that denied it, or null
abbrev pub denied_by_json : Verdict → List ℕ
denied_by_json (Verdict.Denied rule) = json_name (rule_id rule).bytes
denied_by_json other = codes "null"

-- who asked for what
abbrev pub asked_json : Step → List ℕ
asked_json (Step.Asked a) = member (codes "user") (json_name a.user.bytes) ++ member (codes "asked") (json_name (request_word a.request)) ++ member (codes "about") (json_name (named_by a.request))
asked_json (Step.Matching handed) = codes ""

unfoldable pub first_members : ℕ → ℕ → List ℕ
first_members number moment = first_member (codes "record") (decimal number) ++ member (codes "at") (time_text moment)

unfoldable pub last_member : Verdict → List ℕ
last_member verdict = member (codes "denied_by") (denied_by_json verdict) ++ codes "}"

-- a record of a request, with the rule that denied it
abbrev pub record_json : RecordData → List ℕ
record_json r = first_members r.number r.moment ++ asked_json r.step ++ last_member r.verdict
