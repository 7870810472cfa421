-- A warning as the fields of a JSON object.
use Rattle.std.specs.Prelude.{ℕ, Bool, if◌then◌else◌, List, [], ◌++◌, codes, decimal, Option, Some, None}
use Rattle.gx_units.specs.declared.names.AccountName.{AccountName}
use Rattle.gx_policy.specs.declared.policy.PolicyData.{PolicyData}
use Rattle.gx_history.specs.declared.facts.StockSide.{StockSide}
use Rattle.gx_text.specs.Shown.{json_name}
use Rattle.gx_events.specs.Fields.{event_field}
use Rattle.gx_json.specs.Parts.{member, number_or_null}
use Rattle.gx_peaks.specs.{declared.figure.Figure.Figure, Keys.key_of}
use Rattle.gx_warnings.specs.declared.warning.Warning.{Warning}

-- an account, or null where the rule counts all of its scope together
abbrev pub name_or_null : Option AccountName → List ℕ
name_or_null None = codes "null"
name_or_null (Some account) = json_name account.bytes

-- whose figure it is
unfoldable pub account_field : PolicyData → Figure → List ℕ
account_field policy figure = member (codes "account") (name_or_null (key_of policy figure).whose)

abbrev pub side_word : Bool → List ℕ
side_word buys = if buys then codes "\"buys\"" else codes "\"sells\""

-- the side of a stock that a net rule counts
abbrev pub side_fields : Option StockSide → List ℕ
side_fields None = []
side_fields (Some on) = member (codes "stock") (json_name on.stock.bytes) ++ member (codes "side") (side_word on.buys)

unfoldable pub used_members : ℕ → Option ℕ → List ℕ
used_members used limit = member (codes "used") (number_or_null (Some used)) ++ member (codes "limit") (number_or_null limit)

-- the event, the share and the rule
unfoldable pub share_fields : Warning → List ℕ
share_fields w = event_field (codes "limit_used") ++ member (codes "percent") (decimal w.share) ++ member (codes "rule") (json_name w.figure.rule.bytes)

unfoldable pub warning_fields : PolicyData → Warning → List ℕ
warning_fields policy w = share_fields w ++ account_field policy w.figure ++ side_fields w.figure.side ++ used_members w.reading.used w.reading.limit
