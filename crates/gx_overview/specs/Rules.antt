-- What stands of the policy's rules, and of the day.
use Rattle.gx_policy.specs.{Kinds.{kind_name, limit_of}, declared.policy.{Account.Account, FileRule.FileRule, PolicyData.PolicyData, Stock.Stock, User.User}}
use Rattle.std.specs.Prelude.{ℕ, ℤ, pos, negsuc, ◌+◌, ◌-◌, true, false, List, Option, None, option_map, option_and_then, length, if◌then◌else◌}
use Rattle.gx_units.specs.declared.names.{AccountName.AccountName, RuleId.RuleId}
use Rattle.gx_history.specs.{declared.record.RecordData.RecordData, Asking.{has_stock, rule_in_force}, InForce.{is_closed, line_of}, Verdicts.{day_limit, last_moment}}
use Rattle.gx_records.specs.State.{gross_used, limit_in_force, net_used}
use Rattle.gx_overview.specs.{declared.{day.{DayRow.DayRow, UserRow.UserRow}, rules.{GrossRow.GrossRow, LimitRow.LimitRow, ListingRow.ListingRow, NetRow.NetRow}, commands.Subject.Subject}, Commands.last_about}

-- the rule's limit: of what it is one, that in force, that of the file, and the Set Limit that changed it last
abbrev pub limit_row : PolicyData → List RecordData → FileRule → LimitRow
limit_row policy records rule = record {
  rule = rule.name;
  kind = kind_name rule.kind;
  limit = limit_in_force policy records rule.name;
  file = limit_of rule.kind;
  set = last_about records (Subject.LimitOf rule.name);
}

-- what is left of a limit, none where more is used
abbrev pub left_of : Option ℕ → Option ℕ → Option ℕ
left_of limit used = option_and_then (λ (most : ℕ). option_map (λ (n : ℕ). most - n) used) limit

-- what the account has used of the limit of a gross rule, and what is left of it
abbrev pub gross_row : PolicyData → List RecordData → RuleId → Account → GrossRow
gross_row policy records rule a = record {
  account = a.name;
  used = gross_used policy records rule a.name;
  left = left_of (limit_in_force policy records rule) (gross_used policy records rule a.name);
}

-- how many shares a net figure may rise by under a limit, none where it is past it
abbrev pub room_of : ℕ → ℤ → ℕ
room_of limit (pos used) = limit - used
room_of limit (negsuc n) = limit + (n + 1)

-- what is left of a net limit
abbrev pub net_left_of : Option ℕ → Option ℤ → Option ℕ
net_left_of limit used = option_and_then (λ (most : ℕ). option_map (room_of most) used) limit

-- what the account has used of the limit of a net rule on each side of a stock, and what is left of it
abbrev pub net_row : PolicyData → List RecordData → RuleId → AccountName → Stock → NetRow
net_row policy records rule account s = record {
  stock = s.name;
  buys = net_used policy records rule account (record { stock = s.name; buys = true });
  sells = net_used policy records rule account (record { stock = s.name; buys = false });
  buys_left = net_left_of (limit_in_force policy records rule) (net_used policy records rule account (record { stock = s.name; buys = true }));
  sells_left = net_left_of (limit_in_force policy records rule) (net_used policy records rule account (record { stock = s.name; buys = false }));
}

-- whether the rule lists the stock now, and the Restrict that put it there
abbrev pub listing_row : PolicyData → List RecordData → RuleId → Stock → ListingRow
listing_row policy records rule s = record {
  stock = s.name;
  is_listed = has_stock (rule_in_force policy records rule) s.name;
  put = if has_stock (rule_in_force policy records rule) s.name then last_about records (Subject.StockOn rule s.name) else None;
}

-- the line that the user is logged in on
abbrev pub user_row : List RecordData → User → UserRow
user_row records u = record { user = u.name; line = line_of records u.name }

-- how far the day is
abbrev pub day_row : List RecordData → DayRow
day_row records = record {
  records = length records;
  left = day_limit - length records;
  moment = last_moment records;
  is_closed = is_closed records;
}
