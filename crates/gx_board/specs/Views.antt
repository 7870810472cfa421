-- What a viewer is shown of a day, at one moment.
use Rattle.std.specs.{Prelude.{◌≡◌, ℤ, pos, negsuc, nat_lt, Bool, false, ◌&&◌, ◌||◌, List, [], map, filter, flat_map, Option, is_some, if◌then◌else◌}, Option.option_map_or}
use Rattle.circular_buffer.specs.Buffer.{keep_last}
use Rattle.gx_units.specs.declared.names.{AccountName.AccountName, RuleId.RuleId, UserName.UserName}
use Rattle.gx_policy.specs.{Kinds.{is_gross, is_net}, declared.policy.{Account.Account, FileRule.FileRule, PolicyData.PolicyData}}
use Rattle.gx_history.specs.declared.record.RecordData.{RecordData}
use Rattle.gx_overview.specs.{Rules.{day_row, gross_row, limit_row, net_row, user_row}, declared.{day.{UserRow.UserRow}, rules.{GrossRow.GrossRow, NetRow.NetRow}}}
use Rattle.gx_board.specs.{declared.{uses.{GrossUse.GrossUse, NetUse.NetUse}, view.BoardView.BoardView}, Accounts.account_states, Counting.{commands, counts_of, denied_rows, denies}, Summaries.most_recent, Sight.{is_record_shown, is_shown, is_user_shown}}

-- an account that is his, for which the rule is
abbrev pub is_gross_shown : PolicyData → List RecordData → UserName → GrossRow → Bool
is_gross_shown policy records viewer row = is_some row.used && is_shown policy records viewer row.account

abbrev pub gross_use : RuleId → GrossRow → GrossUse
gross_use rule row = record { rule = rule; row = row }

-- what each of his accounts has used of the limit of the rule, where it is a gross rule for the account
abbrev pub gross_uses_of : PolicyData → List RecordData → UserName → FileRule → List GrossUse
gross_uses_of policy records viewer rule =
    if is_gross rule.kind
    then map (gross_use rule.name) (filter (is_gross_shown policy records viewer) (map (gross_row policy records rule.name) policy.accounts))
    else []

abbrev pub gross_uses : PolicyData → List RecordData → UserName → List GrossUse
gross_uses policy records viewer = flat_map (gross_uses_of policy records viewer) policy.rules

-- something is used
abbrev pub is_above_zero : ℤ → Bool
is_above_zero (pos n) = nat_lt 0 n
is_above_zero (negsuc n) = false

abbrev pub is_used : Option ℤ → Bool
is_used used = option_map_or is_above_zero used false

-- of the limit on a side of the stock
abbrev pub is_net_used : NetRow → Bool
is_net_used row = is_used row.buys || is_used row.sells

abbrev pub net_use : RuleId → AccountName → NetRow → NetUse
net_use rule account row = record { rule = rule; account = account; row = row }

-- what the account has used of the limit of the rule, in each stock in which it has used some
abbrev pub net_uses_by : PolicyData → List RecordData → RuleId → AccountName → List NetUse
net_uses_by policy records rule account =
    map (net_use rule account) (filter is_net_used (map (net_row policy records rule account) policy.stocks))

-- where the account is his
abbrev pub net_uses_in : PolicyData → List RecordData → UserName → FileRule → Account → List NetUse
net_uses_in policy records viewer rule a = if is_shown policy records viewer a.name then net_uses_by policy records rule.name a.name else []

-- where it is a net rule
abbrev pub net_uses_of : PolicyData → List RecordData → UserName → FileRule → List NetUse
net_uses_of policy records viewer rule = if is_net rule.kind then flat_map (net_uses_in policy records viewer rule) policy.accounts else []

abbrev pub net_uses : PolicyData → List RecordData → UserName → List NetUse
net_uses policy records viewer = flat_map (net_uses_of policy records viewer) policy.rules

-- those of the last records of this sort that concern what is his
abbrev pub recent_shown : PolicyData → List RecordData → UserName → (RecordData → Bool) → List RecordData
recent_shown policy records viewer sort = filter (is_record_shown policy records viewer) (keep_last most_recent (filter sort records))

-- the rows of users whom he is shown
abbrev pub user_rows : PolicyData → List RecordData → UserName → List UserRow
user_rows policy records viewer = filter (λ (row : UserRow). is_user_shown policy records viewer row.user) (map (user_row records) policy.users)

-- what the viewer is shown behind these records: each figure is that of all of them, and no earlier or later ones
pub record IsView (policy : PolicyData) (records : List RecordData) (viewer : UserName) (v : BoardView) : Type 0 where
  pub day : v.day ≡ day_row records
  pub counts : v.counts ≡ counts_of records
  pub accounts : v.accounts.items ≡ account_states policy records viewer
  pub limits : v.limits.items ≡ map (limit_row policy records) policy.rules
  pub gross : v.gross.items ≡ gross_uses policy records viewer
  pub net : v.net.items ≡ net_uses policy records viewer
  pub denied : v.denied.items ≡ denied_rows policy records
  pub denials : v.denials.items ≡ recent_shown policy records viewer denies
  pub commands : v.commands.items ≡ recent_shown policy records viewer commands
  pub users : v.users.items ≡ user_rows policy records viewer
