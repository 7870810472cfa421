-- Whose orders are live, and how much of the limits of the policy's rules is used, after these records.
use Rattle.gx_policy.specs.{Kinds.limit_of, declared.{kinds.ExposureLimit.ExposureLimit, policy.{Count.Count, FileRule.FileRule, PolicyData.PolicyData, RuleKind.RuleKind}}, People.{account_named, covers, rule_in}}
use Rattle.std.specs.{Prelude.{ℕ, ℤ, pos, ◌+ℤ◌, Bool, ◌&&◌, List, Option, Some, None, is_some, option_and_then, if◌then◌else◌}, List.filter}
use Rattle.gx_units.specs.{Names.same_user, declared.names.{AccountName.AccountName, RuleId.RuleId, UserName.UserName}}
use Rattle.gx_history.specs.{declared.{facts.StockSide.StockSide, live_order.LiveOrder.LiveOrder, «record».RecordData.RecordData}, Asking.rule_in_force, Executions.executions, Figures.{counts_account, net_done, side_live}, Live.live}
use Rattle.gx_laws.specs.Exposure.{gross_shares, gross_value}

-- the user's orders, in their places
abbrev pub of_user : UserName → List LiveOrder → List LiveOrder
of_user user live = filter (λ (o : LiveOrder). same_user o.user user) live

-- the limit of the rule of this name, if it has one that Set Limit may change
abbrev pub limit_in_force : PolicyData → List RecordData → RuleId → Option ℕ
limit_in_force policy records name = option_and_then (λ (rule : FileRule). limit_of rule.kind) (rule_in_force policy records name)

-- the account is one of the policy, and the rule is for it
abbrev pub is_for : PolicyData → AccountName → FileRule → Bool
is_for policy account rule = is_some (account_named policy account) && covers rule.scope account

-- what a gross rule counts of these accounts: their open and executed shares, or the value of those
abbrev pub gross_of : PolicyData → List RecordData → (Count → AccountName → Bool) → RuleKind → Option ℕ
gross_of policy records among (RuleKind.Exposure ExposureLimit.GrossShares limit count) = Some (gross_shares policy records (among count))
gross_of policy records among (RuleKind.Exposure ExposureLimit.GrossValue limit count) = Some (gross_value policy records (among count))
gross_of policy records among (RuleKind.Exposure ExposureLimit.NetShares limit count) = None
gross_of policy records among (RuleKind.Listed kind stocks) = None
gross_of policy records among (RuleKind.Plain kind) = None
gross_of policy records among (RuleKind.Order kind limit) = None
gross_of policy records among (RuleKind.Rate rate count) = None
gross_of policy records among (RuleKind.Repeat repeat count) = None

-- what a net rule counts of these accounts on a side of a stock: what they executed there, less what they did on the other
-- side, and what they have open there
abbrev pub net_of : PolicyData → List RecordData → (Count → AccountName → Bool) → StockSide → RuleKind → Option ℤ
net_of policy records among side (RuleKind.Exposure ExposureLimit.NetShares limit count) =
    Some (net_done (executions policy records) (among count) side +ℤ pos (side_live (live policy records) (among count) side))
net_of policy records among side (RuleKind.Exposure ExposureLimit.GrossShares limit count) = None
net_of policy records among side (RuleKind.Exposure ExposureLimit.GrossValue limit count) = None
net_of policy records among side (RuleKind.Listed kind stocks) = None
net_of policy records among side (RuleKind.Plain kind) = None
net_of policy records among side (RuleKind.Order kind limit) = None
net_of policy records among side (RuleKind.Rate rate count) = None
net_of policy records among side (RuleKind.Repeat repeat count) = None

-- the accounts whose orders a rule counts together with those of this one
abbrev pub counted_with : FileRule → AccountName → Count → AccountName → Bool
counted_with rule account count = counts_account count rule.scope account

-- what the account, or all accounts of the rule's scope where it counts them together, have used of its limit, where it is
-- a gross rule for the account
abbrev pub gross_of_rule : PolicyData → List RecordData → AccountName → FileRule → Option ℕ
gross_of_rule policy records account rule =
    if is_for policy account rule then gross_of policy records (counted_with rule account) rule.kind else None

-- and on a side of a stock, where it is a net rule for the account
abbrev pub net_of_rule : PolicyData → List RecordData → AccountName → StockSide → FileRule → Option ℤ
net_of_rule policy records account side rule =
    if is_for policy account rule then net_of policy records (counted_with rule account) side rule.kind else None

-- what is used of the limit of the gross rule of this name: shares, or ten-thousandths of a dollar
abbrev pub gross_used : PolicyData → List RecordData → RuleId → AccountName → Option ℕ
gross_used policy records name account = option_and_then (gross_of_rule policy records account) (rule_in policy.rules name)

-- what is used of that of the net rule of this name, in shares: below 0 where more were executed on the other side
abbrev pub net_used : PolicyData → List RecordData → RuleId → AccountName → StockSide → Option ℤ
net_used policy records name account side = option_and_then (net_of_rule policy records account side) (rule_in policy.rules name)
