-- How often each rule denied what an account's users asked for.
use Rattle.std.specs.{Prelude.{Bool, ◌&&◌, List, count_by, find, map, Option, Some, None, option_and_then, unwrap_or}, List.filter_map, Option.option_eq}
use Rattle.gx_units.specs.Names.{same_account, same_rule}
use Rattle.gx_policy.specs.{declared.policy.PolicyData.PolicyData, Lists.once, People.account_of, RuleNames.rule_id}
use Rattle.gx_history.specs.{declared.record.{Asked.Asked, RecordData.RecordData, Verdict.Verdict}, Requests.asked_of}
use Rattle.gx_activity.specs.declared.denials.{Denial.Denial, DenialRow.DenialRow}

-- by the same rule, of the same account or none
abbrev pub same_denial : Denial → Denial → Bool
same_denial a b = same_rule a.rule b.rule && option_eq same_account a.account b.account

-- what denied the request, and the account that its user trades for, if it was denied
abbrev pub denial_by : PolicyData → Verdict → Asked → Option Denial
denial_by policy (Verdict.Denied rule) a = Some (record { rule = rule_id rule; account = account_of policy a.user })
denial_by policy other a = None

-- and of a record, if it shows such a request
abbrev pub denial_in : PolicyData → RecordData → Option Denial
denial_in policy r = option_and_then (denial_by policy r.verdict) (asked_of r.step)

-- all denials, in their order
abbrev pub denials : PolicyData → List RecordData → List Denial
denials policy records = filter_map (denial_in policy) records

-- how often it came
abbrev pub denial_row : List Denial → Denial → DenialRow
denial_row came d = record { denial = d; count = count_by (λ (x : Denial). same_denial x d) came }

-- a row for each that came, in the order in which they first did
abbrev pub denial_rows : PolicyData → List RecordData → List DenialRow
denial_rows policy records = map (denial_row (denials policy records)) (once same_denial (denials policy records))

-- the row of this rule and account, or none came where there is no such row
abbrev pub denial_row_of : List DenialRow → Denial → DenialRow
denial_row_of rows d = unwrap_or (find (λ (row : DenialRow). same_denial d row.denial) rows) (record { denial = d; count = 0 })
