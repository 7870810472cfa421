-- Runs on the sample policy in which orders meet, computed.
use Rattle.std.proofs.Common.{refl}
use Rattle.gx_history.specs.{Asking.facts, Executions.{executions, executed_shares, done}, Figures.{figures, open_of_chosen, live_value, done_of_chosen, done_value, recent, equal_recent, reference}, InForce.{kill_in_force, is_closed, rules_in_force, is_entitled, line_of}, Live.{live, side, waiting}, Matching.matching, Orders.{orders, total, is_dead, is_token_used}, Rules.{first_forbidding, written_order}, Settling.settled_records, Streams.stream, Verdicts.{run, verdict, next, step_verdict}}
use Rattle.gx_policy.specs.RuleNames.{rules_before, rules_behind}
use Rattle.gx_worked_examples.specs.MatchingRows.{SettlingTakesAllThatWait, TheBestPriceComesFirst, AnImmediateOrderTakesWhatThereIs, ACutOrderKeepsItsPlace}

pub settling_takes_all_that_wait : SettlingTakesAllThatWait
unfolding run next step_verdict verdict matching facts figures open_of_chosen live_value done_of_chosen done_value recent equal_recent reference first_forbidding written_order rules_before rules_behind orders executions executed_shares done total is_dead live waiting side is_token_used is_closed kill_in_force rules_in_force is_entitled line_of stream settled_records
settling_takes_all_that_wait = refl

pub the_best_price_comes_first : TheBestPriceComesFirst
unfolding run next step_verdict verdict matching facts figures open_of_chosen live_value done_of_chosen done_value recent equal_recent reference first_forbidding written_order rules_before rules_behind orders executions executed_shares done total is_dead live waiting side is_token_used is_closed kill_in_force rules_in_force is_entitled line_of stream
the_best_price_comes_first = refl

pub an_immediate_order_takes_what_there_is : AnImmediateOrderTakesWhatThereIs
unfolding run next step_verdict verdict matching facts figures open_of_chosen live_value done_of_chosen done_value recent equal_recent reference first_forbidding written_order rules_before rules_behind orders executions executed_shares done total is_dead live waiting side is_token_used is_closed kill_in_force rules_in_force is_entitled line_of stream
an_immediate_order_takes_what_there_is = refl

pub a_cut_order_keeps_its_place : ACutOrderKeepsItsPlace
unfolding run next step_verdict verdict matching facts figures open_of_chosen live_value done_of_chosen done_value recent equal_recent reference first_forbidding written_order rules_before rules_behind orders executions executed_shares done total is_dead live waiting side is_token_used is_closed kill_in_force rules_in_force is_entitled line_of stream
a_cut_order_keeps_its_place = refl
