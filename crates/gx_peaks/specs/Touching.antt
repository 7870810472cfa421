-- Which figures a record can raise, and whose limit it sets.
use Rattle.std.specs.{Prelude.{Bool, false, List, Option, Some, None, option_and_then, if◌then◌else◌}, Option.option_map_or}
use Rattle.gx_units.specs.{Names.same_rule, declared.names.{AccountName.AccountName, RuleId.RuleId}}
use Rattle.gx_desk.specs.declared.Action.{Action}
use Rattle.gx_policy.specs.declared.policy.PolicyData.{PolicyData}
use Rattle.gx_history.specs.{declared.{live_order.LiveOrder.LiveOrder, «record».{RecordData.RecordData, Verdict.Verdict}}, Book.is_buy, Live.{live, live_numbered}, Requests.granted_action}

-- the rule whose limit a command sets
abbrev pub set_by : Action → Option RuleId
set_by (Action.SetLimit rule limit) = Some rule
set_by other = None

-- the rule whose limit the record sets
abbrev pub set_in : RecordData → Option RuleId
set_in r = option_and_then set_by (granted_action r)

-- the record sets the limit of this rule
abbrev pub sets_limit : RecordData → RuleId → Bool
sets_limit r rule = option_map_or (λ (named : RuleId). same_rule named rule) (set_in r) false

-- the account of an order that sells
abbrev pub seller : LiveOrder → Option AccountName
seller o = if is_buy o.terms.side then None else Some o.account

-- the account whose sell a verdict fills as the order that came in: it may get more than its own price
abbrev pub gains_by : List LiveOrder → Verdict → Option AccountName
gains_by orders (Verdict.Filled f) = option_and_then seller (live_numbered orders f.taker)
gains_by orders other = None

-- and whose the record fills so, behind these records
abbrev pub gains_of : PolicyData → List RecordData → RecordData → Option AccountName
gains_of policy earlier r = gains_by (live policy earlier) r.verdict
