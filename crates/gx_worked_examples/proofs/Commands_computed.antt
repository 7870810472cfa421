-- Runs on the sample policy with commands of officers, computed.
use Rattle.std.proofs.Common.{refl}
use Rattle.gx_history.specs.{Asking.facts, Executions.{executions, executed_shares, done}, Figures.{figures, open_of_chosen, live_value, done_of_chosen, done_value, recent, equal_recent, reference}, InForce.{kill_in_force, is_closed, rules_in_force, is_entitled, line_of}, Live.{live, side, waiting}, Matching.matching, Orders.{orders, total, is_dead, is_token_used}, Rules.{first_forbidding, written_order}, Streams.stream, Verdicts.{run, verdict, next, step_verdict}}
use Rattle.gx_policy.specs.RuleNames.{rules_before, rules_behind}
use Rattle.gx_worked_examples.specs.CommandRows.{AKillEndsASweep, ALiftLetsTradeAgain, ASetLimitIsInForce, UselessCommandsAreDenied, NamesAreWrittenInEitherCase, ReadersComeAndGo, AKillStandsUntilTheLift}

pub a_kill_ends_a_sweep : AKillEndsASweep
unfolding run next step_verdict verdict matching facts figures open_of_chosen live_value done_of_chosen done_value recent equal_recent reference first_forbidding written_order rules_before rules_behind orders executions executed_shares done total is_dead live waiting side is_token_used is_closed kill_in_force rules_in_force is_entitled line_of stream
a_kill_ends_a_sweep = refl

pub a_lift_lets_trade_again : ALiftLetsTradeAgain
unfolding run next step_verdict verdict matching facts figures open_of_chosen live_value done_of_chosen done_value recent equal_recent reference first_forbidding written_order rules_before rules_behind orders executions executed_shares done total is_dead live waiting side is_token_used is_closed kill_in_force rules_in_force is_entitled line_of stream
a_lift_lets_trade_again = refl

pub a_set_limit_is_in_force : ASetLimitIsInForce
unfolding run next step_verdict verdict matching facts figures open_of_chosen live_value done_of_chosen done_value recent equal_recent reference first_forbidding written_order rules_before rules_behind orders executions executed_shares done total is_dead live waiting side is_token_used is_closed kill_in_force rules_in_force is_entitled line_of stream
a_set_limit_is_in_force = refl

pub useless_commands_are_denied : UselessCommandsAreDenied
unfolding run next step_verdict verdict matching facts figures open_of_chosen live_value done_of_chosen done_value recent equal_recent reference first_forbidding written_order rules_before rules_behind orders executions executed_shares done total is_dead live waiting side is_token_used is_closed kill_in_force rules_in_force is_entitled line_of stream
useless_commands_are_denied = refl

pub names_are_written_in_either_case : NamesAreWrittenInEitherCase
unfolding run next step_verdict verdict matching facts figures open_of_chosen live_value done_of_chosen done_value recent equal_recent reference first_forbidding written_order rules_before rules_behind orders executions executed_shares done total is_dead live waiting side is_token_used is_closed kill_in_force rules_in_force is_entitled line_of stream
names_are_written_in_either_case = refl

pub readers_come_and_go : ReadersComeAndGo
unfolding run next step_verdict verdict matching facts figures open_of_chosen live_value done_of_chosen done_value recent equal_recent reference first_forbidding written_order rules_before rules_behind orders executions executed_shares done total is_dead live waiting side is_token_used is_closed kill_in_force rules_in_force is_entitled line_of stream
readers_come_and_go = refl

pub a_kill_stands_until_the_lift : AKillStandsUntilTheLift
unfolding run next step_verdict verdict matching facts figures open_of_chosen live_value done_of_chosen done_value recent equal_recent reference first_forbidding written_order rules_before rules_behind orders executions executed_shares done total is_dead live waiting side is_token_used is_closed kill_in_force rules_in_force is_entitled line_of stream
a_kill_stands_until_the_lift = refl
