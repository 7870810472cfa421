-- How many records there are, and what they say.
use Rattle.gx_overview.specs.{Accounts.{one_more, capped_count}, Commands.is_grant}
use Rattle.gx_history.specs.{Requests.{is_fill, denied_by, asked_of, is_command, is_granted}, declared.«record».{Asked.Asked, RecordData.RecordData, VerdictKind.VerdictKind}}
use Rattle.std.specs.{Prelude.{ℕ, ◌+◌, Bool, true, false, ◌++◌, List, count_by, length, map, max, Option, Some}, Option.option_map_or}
use Rattle.gx_units.specs.{Names.same_rule, declared.names.RuleId.RuleId}
use Rattle.gx_policy.specs.{RuleNames.rule_id, declared.{policy.{FileRule.FileRule, PolicyData.PolicyData}, rule_name.{RuleName.RuleName, TheConstants.BUILT_IN}}}
use Rattle.gx_pass.specs.Views.{highest_line, line_in}
use Rattle.gx_board.specs.declared.{counts.Counts.Counts, denied.DeniedRow.DeniedRow}

-- a request was granted
abbrev pub grants : RecordData → Bool
grants r = is_granted r.verdict

-- a request was denied
abbrev pub denies : RecordData → Bool
denies r = option_map_or (λ (rule : RuleName). true) (denied_by r.verdict) false

-- by the rule of this name
abbrev pub is_denied_by : RuleId → RecordData → Bool
is_denied_by name r = option_map_or (λ (rule : RuleName). same_rule name (rule_id rule)) (denied_by r.verdict) false

abbrev pub fills : RecordData → Bool
fills r = is_fill r.verdict

-- an officer asked for something
abbrev pub commands : RecordData → Bool
commands r = option_map_or (λ (a : Asked). is_command a.request) (asked_of r.step) false

-- what the records say in numbers
abbrev pub counts_of : List RecordData → Counts
counts_of records = record {
  records = capped_count (length records);
  granted = capped_count (count_by grants records);
  denied = capped_count (count_by denies records);
  fills = capped_count (count_by fills records);
  highest_line = highest_line records;
}

-- the numbers, once the record has come
abbrev pub counts_with : RecordData → Counts → Counts
counts_with r c = record {
  records = capped_count (c.records + 1);
  granted = one_more (grants r) c.granted;
  denied = one_more (denies r) c.denied;
  fills = one_more (fills r) c.fills;
  highest_line = max c.highest_line (line_in r);
}

-- a request was denied
abbrev pub is_denial : Option VerdictKind → Bool
is_denial (Some VerdictKind.Denied) = true
is_denial other = false

-- two orders met
abbrev pub is_meeting : Option VerdictKind → Bool
is_meeting (Some VerdictKind.Filled) = true
is_meeting other = false

-- the line that it was asked on; 0 of a matching step
abbrev pub line_asked_on : Option Asked → ℕ
line_asked_on found = option_map_or (λ (a : Asked). a.line) found 0

-- the numbers, once a record with this verdict and this request has come
abbrev pub counted_by : Option VerdictKind → Option Asked → Counts → Counts
counted_by kind found c = record {
  records = capped_count (c.records + 1);
  granted = one_more (is_grant kind) c.granted;
  denied = one_more (is_denial kind) c.denied;
  fills = one_more (is_meeting kind) c.fills;
  highest_line = max c.highest_line (line_asked_on found);
}

-- how often the rule of this name denied a request
abbrev pub denied_row : List RecordData → RuleId → DeniedRow
denied_row records name = record { rule = name; count = capped_count (count_by (is_denied_by name) records) }

-- the rules that may deny: the built-in ones, and behind them the file's
abbrev pub rule_names : PolicyData → List RuleId
rule_names policy = map rule_id BUILT_IN ++ map (λ (rule : FileRule). rule.name) policy.rules

-- a row for each rule
abbrev pub denied_rows : PolicyData → List RecordData → List DeniedRow
denied_rows policy records = map (denied_row records) (rule_names policy)

-- the row, once the record has come
abbrev pub row_counted : RecordData → DeniedRow → DeniedRow
row_counted r row = record { rule = row.rule; count = one_more (is_denied_by row.rule r) row.count }
