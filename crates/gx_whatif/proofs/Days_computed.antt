-- Days on the sample policy under others, computed.
use Rattle.std.proofs.Common.{refl}
use Rattle.gx_history.specs.{Asking.facts, Executions.{executions, executed_shares, done}, Figures.{figures, open_of_chosen, live_value, done_of_chosen, done_value, recent, equal_recent, reference}, InForce.{kill_in_force, is_closed, rules_in_force, is_entitled, line_of}, Live.{live, side, waiting}, Matching.matching, Orders.{orders, total, is_dead, is_token_used}, Rules.{first_forbidding, written_order}, Settling.settled_records, Streams.stream, Verdicts.{run, verdict, next, step_verdict}}
use Rattle.gx_policy.specs.RuleNames.{rules_before, rules_behind}
use Rattle.gx_whatif.specs.{Redone.redone_under, Rows.{ARuleComes, ARuleGoes}}

pub a_rule_comes : ARuleComes
unfolding redone_under run next step_verdict verdict matching facts figures open_of_chosen live_value done_of_chosen done_value recent equal_recent reference first_forbidding written_order rules_before rules_behind orders executions executed_shares done total is_dead live waiting side is_token_used is_closed kill_in_force rules_in_force is_entitled line_of stream settled_records
a_rule_comes = refl

pub a_rule_goes : ARuleGoes
unfolding redone_under run next step_verdict verdict matching facts figures open_of_chosen live_value done_of_chosen done_value recent equal_recent reference first_forbidding written_order rules_before rules_behind orders executions executed_shares done total is_dead live waiting side is_token_used is_closed kill_in_force rules_in_force is_entitled line_of stream settled_records
a_rule_goes = refl
