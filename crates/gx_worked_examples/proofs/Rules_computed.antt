-- Runs under rules of the file, computed.
use Rattle.std.proofs.Common.{refl}
use Rattle.gx_history.specs.{Asking.facts, Executions.{executions, executed_shares, done}, Figures.{figures, open_of_chosen, live_value, done_of_chosen, done_value, recent, equal_recent, reference}, InForce.{kill_in_force, is_closed, rules_in_force, is_entitled, line_of}, Live.{live, side, waiting}, Matching.matching, Orders.{orders, total, is_dead, is_token_used}, Rules.{first_forbidding, written_order}, Streams.stream, Verdicts.{run, verdict, next, step_verdict}}
use Rattle.gx_policy.specs.RuleNames.{rules_before, rules_behind}
use Rattle.gx_worked_examples.specs.RuleRows.{ValueAboveTheLimit, TheFileOrderDecides, TheFileOrderTurned, ACollarFollowsTheLastFill, SharesCountTogether, APositionIsNet, IncomingOrdersCount, EqualOrdersAreCounted, WindowsGoByTheMoments, ARestrictedStockComesFirst, ARestrictedStockComesLast, AnOrderMayBeTooBig}

pub value_above_the_limit : ValueAboveTheLimit
unfolding run next step_verdict verdict matching facts figures open_of_chosen live_value done_of_chosen done_value recent equal_recent reference first_forbidding written_order rules_before rules_behind orders executions executed_shares done total is_dead live waiting side is_token_used is_closed kill_in_force rules_in_force is_entitled line_of stream
value_above_the_limit = refl

pub the_file_order_decides : TheFileOrderDecides
unfolding run next step_verdict verdict matching facts figures open_of_chosen live_value done_of_chosen done_value recent equal_recent reference first_forbidding written_order rules_before rules_behind orders executions executed_shares done total is_dead live waiting side is_token_used is_closed kill_in_force rules_in_force is_entitled line_of stream
the_file_order_decides = refl

pub the_file_order_turned : TheFileOrderTurned
unfolding run next step_verdict verdict matching facts figures open_of_chosen live_value done_of_chosen done_value recent equal_recent reference first_forbidding written_order rules_before rules_behind orders executions executed_shares done total is_dead live waiting side is_token_used is_closed kill_in_force rules_in_force is_entitled line_of stream
the_file_order_turned = refl

pub a_collar_follows_the_last_fill : ACollarFollowsTheLastFill
unfolding run next step_verdict verdict matching facts figures open_of_chosen live_value done_of_chosen done_value recent equal_recent reference first_forbidding written_order rules_before rules_behind orders executions executed_shares done total is_dead live waiting side is_token_used is_closed kill_in_force rules_in_force is_entitled line_of stream
a_collar_follows_the_last_fill = refl

pub shares_count_together : SharesCountTogether
unfolding run next step_verdict verdict matching facts figures open_of_chosen live_value done_of_chosen done_value recent equal_recent reference first_forbidding written_order rules_before rules_behind orders executions executed_shares done total is_dead live waiting side is_token_used is_closed kill_in_force rules_in_force is_entitled line_of stream
shares_count_together = refl

pub a_position_is_net : APositionIsNet
unfolding run next step_verdict verdict matching facts figures open_of_chosen live_value done_of_chosen done_value recent equal_recent reference first_forbidding written_order rules_before rules_behind orders executions executed_shares done total is_dead live waiting side is_token_used is_closed kill_in_force rules_in_force is_entitled line_of stream
a_position_is_net = refl

pub incoming_orders_count : IncomingOrdersCount
unfolding run next step_verdict verdict matching facts figures open_of_chosen live_value done_of_chosen done_value recent equal_recent reference first_forbidding written_order rules_before rules_behind orders executions executed_shares done total is_dead live waiting side is_token_used is_closed kill_in_force rules_in_force is_entitled line_of stream
incoming_orders_count = refl

pub equal_orders_are_counted : EqualOrdersAreCounted
unfolding run next step_verdict verdict matching facts figures open_of_chosen live_value done_of_chosen done_value recent equal_recent reference first_forbidding written_order rules_before rules_behind orders executions executed_shares done total is_dead live waiting side is_token_used is_closed kill_in_force rules_in_force is_entitled line_of stream
equal_orders_are_counted = refl

pub windows_go_by_the_moments : WindowsGoByTheMoments
unfolding run next step_verdict verdict matching facts figures open_of_chosen live_value done_of_chosen done_value recent equal_recent reference first_forbidding written_order rules_before rules_behind orders executions executed_shares done total is_dead live waiting side is_token_used is_closed kill_in_force rules_in_force is_entitled line_of stream
windows_go_by_the_moments = refl

pub a_restricted_stock_comes_first : ARestrictedStockComesFirst
unfolding run next step_verdict verdict matching facts figures open_of_chosen live_value done_of_chosen done_value recent equal_recent reference first_forbidding written_order rules_before rules_behind orders executions executed_shares done total is_dead live waiting side is_token_used is_closed kill_in_force rules_in_force is_entitled line_of stream
a_restricted_stock_comes_first = refl

pub a_restricted_stock_comes_last : ARestrictedStockComesLast
unfolding run next step_verdict verdict matching facts figures open_of_chosen live_value done_of_chosen done_value recent equal_recent reference first_forbidding written_order rules_before rules_behind orders executions executed_shares done total is_dead live waiting side is_token_used is_closed kill_in_force rules_in_force is_entitled line_of stream
a_restricted_stock_comes_last = refl

pub an_order_may_be_too_big : AnOrderMayBeTooBig
unfolding run next step_verdict verdict matching facts figures open_of_chosen live_value done_of_chosen done_value recent equal_recent reference first_forbidding written_order rules_before rules_behind orders executions executed_shares done total is_dead live waiting side is_token_used is_closed kill_in_force rules_in_force is_entitled line_of stream
an_order_may_be_too_big = refl
