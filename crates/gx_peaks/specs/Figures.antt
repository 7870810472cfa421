-- Which figures there are, and what each comes to over the records.
use Rattle.gx_policy.specs.{declared.{kinds.ExposureLimit.ExposureLimit, policy.{FileRule.FileRule, PolicyData.PolicyData, RuleKind.RuleKind}}, People.covers}
use Rattle.std.specs.Prelude.{ℕ, ℤ, pos, negsuc, Bool, ◌&&◌, false, is_none, List, [], Option, Some, None, option_map, is_some, unwrap_or}
use Rattle.gx_units.specs.declared.names.AccountName.{AccountName}
use Rattle.gx_history.specs.declared.{facts.StockSide.StockSide, «record».RecordData.RecordData}
use Rattle.gx_records.specs.State.{gross_used, net_used}
use Rattle.gx_peaks.specs.declared.figure.Figure.{Figure}

-- how far a net figure is above 0
abbrev pub above_zero : ℤ → ℕ
above_zero (pos n) = n
above_zero (negsuc n) = 0

-- what is used of the limit of a gross rule, or of that of a net rule on a side of a stock, as far as it is above 0
abbrev pub used_on : PolicyData → Figure → Option StockSide → List RecordData → Option ℕ
used_on policy figure None records = gross_used policy records figure.rule figure.account
used_on policy figure (Some side) records = option_map above_zero (net_used policy records figure.rule figure.account side)

-- what the figure comes to; None where there is no such rule for the account
abbrev pub used_of : PolicyData → Figure → List RecordData → Option ℕ
used_of policy figure records = used_on policy figure figure.side records

-- there is such a rule for the account
abbrev pub is_counted : PolicyData → Figure → Bool
is_counted policy figure = is_some (used_of policy figure [])

-- and 0 where there is none
abbrev pub amount : PolicyData → Figure → List RecordData → ℕ
amount policy figure records = unwrap_or (used_of policy figure records) 0

-- a rule of this kind counts figures on a side of a stock, or on none
abbrev pub fits : RuleKind → Option StockSide → Bool
fits (RuleKind.Exposure ExposureLimit.GrossShares limit count) side = is_none side
fits (RuleKind.Exposure ExposureLimit.GrossValue limit count) side = is_none side
fits (RuleKind.Exposure ExposureLimit.NetShares limit count) side = is_some side
fits other side = false

-- the rule is for the account, and counts figures on this side of a stock, or on none
abbrev pub counts : FileRule → AccountName → Option StockSide → Bool
counts rule account side = covers rule.scope account && fits rule.kind side
