-- Runs on the sample policy with orders of traders, computed.
use Rattle.std.proofs.Common.{refl}
use Rattle.gx_history.specs.{Asking.facts, Executions.{executions, executed_shares, done}, Figures.{figures, open_of_chosen, live_value, done_of_chosen, done_value, recent, equal_recent, reference}, InForce.{kill_in_force, is_closed, rules_in_force, is_entitled, line_of}, Live.{live, side, waiting}, Matching.matching, Orders.{orders, total, is_dead, is_token_used}, Rules.{first_forbidding, written_order}, Streams.stream, Verdicts.{run, verdict, next, step_verdict}}
use Rattle.gx_policy.specs.RuleNames.{rules_before, rules_behind}
use Rattle.gx_worked_examples.specs.OrderRows.{AUsedTokenIsDenied, CancelsLowerTheSize, AReplaceLosesItsPlace, SizesAndPricesAreChecked, ImmediateOrdersExpire, TheGreatestOrderIsGranted, PricesBelowADollarMayBeFiner, LoginsAndRolesAreChecked}

pub a_used_token_is_denied : AUsedTokenIsDenied
unfolding run next step_verdict verdict matching facts figures open_of_chosen live_value done_of_chosen done_value recent equal_recent reference first_forbidding written_order rules_before rules_behind orders executions executed_shares done total is_dead live waiting side is_token_used is_closed kill_in_force rules_in_force is_entitled line_of stream
a_used_token_is_denied = refl

pub cancels_lower_the_size : CancelsLowerTheSize
unfolding run next step_verdict verdict matching facts figures open_of_chosen live_value done_of_chosen done_value recent equal_recent reference first_forbidding written_order rules_before rules_behind orders executions executed_shares done total is_dead live waiting side is_token_used is_closed kill_in_force rules_in_force is_entitled line_of stream
cancels_lower_the_size = refl

pub a_replace_loses_its_place : AReplaceLosesItsPlace
unfolding run next step_verdict verdict matching facts figures open_of_chosen live_value done_of_chosen done_value recent equal_recent reference first_forbidding written_order rules_before rules_behind orders executions executed_shares done total is_dead live waiting side is_token_used is_closed kill_in_force rules_in_force is_entitled line_of stream
a_replace_loses_its_place = refl

pub sizes_and_prices_are_checked : SizesAndPricesAreChecked
unfolding run next step_verdict verdict matching facts figures open_of_chosen live_value done_of_chosen done_value recent equal_recent reference first_forbidding written_order rules_before rules_behind orders executions executed_shares done total is_dead live waiting side is_token_used is_closed kill_in_force rules_in_force is_entitled line_of stream
sizes_and_prices_are_checked = refl

pub immediate_orders_expire : ImmediateOrdersExpire
unfolding run next step_verdict verdict matching facts figures open_of_chosen live_value done_of_chosen done_value recent equal_recent reference first_forbidding written_order rules_before rules_behind orders executions executed_shares done total is_dead live waiting side is_token_used is_closed kill_in_force rules_in_force is_entitled line_of stream
immediate_orders_expire = refl

pub the_greatest_order_is_granted : TheGreatestOrderIsGranted
unfolding run next step_verdict verdict matching facts figures open_of_chosen live_value done_of_chosen done_value recent equal_recent reference first_forbidding written_order rules_before rules_behind orders executions executed_shares done total is_dead live waiting side is_token_used is_closed kill_in_force rules_in_force is_entitled line_of stream
the_greatest_order_is_granted = refl

pub prices_below_a_dollar_may_be_finer : PricesBelowADollarMayBeFiner
unfolding run next step_verdict verdict matching facts figures open_of_chosen live_value done_of_chosen done_value recent equal_recent reference first_forbidding written_order rules_before rules_behind orders executions executed_shares done total is_dead live waiting side is_token_used is_closed kill_in_force rules_in_force is_entitled line_of stream
prices_below_a_dollar_may_be_finer = refl

pub logins_and_roles_are_checked : LoginsAndRolesAreChecked
unfolding run next step_verdict verdict matching facts figures open_of_chosen live_value done_of_chosen done_value recent equal_recent reference first_forbidding written_order rules_before rules_behind orders executions executed_shares done total is_dead live waiting side is_token_used is_closed kill_in_force rules_in_force is_entitled line_of stream
logins_and_roles_are_checked = refl
