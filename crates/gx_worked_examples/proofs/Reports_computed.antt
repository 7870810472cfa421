-- What users are told in these runs, computed.
use Rattle.std.proofs.Common.{refl}
use Rattle.gx_desk.specs.Writing.{drop_copy_bytes}
use Rattle.gx_history.specs.{Asking.facts, Executions.{executions, executed_shares, done}, Figures.{figures, open_of_chosen, live_value, done_of_chosen, done_value, recent, equal_recent, reference}, InForce.{kill_in_force, is_closed, rules_in_force, is_entitled, line_of}, Live.{live, side, waiting}, Matching.matching, Orders.{orders, total, is_dead, is_token_used}, Rules.{first_forbidding, written_order}, Streams.stream, Verdicts.{run, verdict, next, step_verdict}}
use Rattle.gx_policy.specs.{Soundness.is_sound, RuleNames.{rules_before, rules_behind}}
use Rattle.gx_worked_examples.specs.ReportRows.{AKillIsTold, ADeniedValueIsTold, AKilledAccountIsTold, ALiftIsTold, ACancelIsTold, ACutIsTold, AReplaceIsTold, AnExpiryIsTold, TheEndOfTheDayIsTold, TheSampleIsSound, TheSweepIsShowable, ADropCopyIsWritten}

pub a_kill_is_told : AKillIsTold
unfolding run next step_verdict verdict matching facts figures open_of_chosen live_value done_of_chosen done_value recent equal_recent reference first_forbidding written_order rules_before rules_behind orders executions executed_shares done total is_dead live waiting side is_token_used is_closed kill_in_force rules_in_force is_entitled line_of stream
a_kill_is_told = refl

pub a_denied_value_is_told : ADeniedValueIsTold
unfolding run next step_verdict verdict matching facts figures open_of_chosen live_value done_of_chosen done_value recent equal_recent reference first_forbidding written_order rules_before rules_behind orders executions executed_shares done total is_dead live waiting side is_token_used is_closed kill_in_force rules_in_force is_entitled line_of stream
a_denied_value_is_told = refl

pub a_killed_account_is_told : AKilledAccountIsTold
unfolding run next step_verdict verdict matching facts figures open_of_chosen live_value done_of_chosen done_value recent equal_recent reference first_forbidding written_order rules_before rules_behind orders executions executed_shares done total is_dead live waiting side is_token_used is_closed kill_in_force rules_in_force is_entitled line_of stream
a_killed_account_is_told = refl

pub a_lift_is_told : ALiftIsTold
unfolding run next step_verdict verdict matching facts figures open_of_chosen live_value done_of_chosen done_value recent equal_recent reference first_forbidding written_order rules_before rules_behind orders executions executed_shares done total is_dead live waiting side is_token_used is_closed kill_in_force rules_in_force is_entitled line_of stream
a_lift_is_told = refl

pub a_cancel_is_told : ACancelIsTold
unfolding run next step_verdict verdict matching facts figures open_of_chosen live_value done_of_chosen done_value recent equal_recent reference first_forbidding written_order rules_before rules_behind orders executions executed_shares done total is_dead live waiting side is_token_used is_closed kill_in_force rules_in_force is_entitled line_of stream
a_cancel_is_told = refl

pub a_cut_is_told : ACutIsTold
unfolding run next step_verdict verdict matching facts figures open_of_chosen live_value done_of_chosen done_value recent equal_recent reference first_forbidding written_order rules_before rules_behind orders executions executed_shares done total is_dead live waiting side is_token_used is_closed kill_in_force rules_in_force is_entitled line_of stream
a_cut_is_told = refl

pub a_replace_is_told : AReplaceIsTold
unfolding run next step_verdict verdict matching facts figures open_of_chosen live_value done_of_chosen done_value recent equal_recent reference first_forbidding written_order rules_before rules_behind orders executions executed_shares done total is_dead live waiting side is_token_used is_closed kill_in_force rules_in_force is_entitled line_of stream
a_replace_is_told = refl

pub an_expiry_is_told : AnExpiryIsTold
unfolding run next step_verdict verdict matching facts figures open_of_chosen live_value done_of_chosen done_value recent equal_recent reference first_forbidding written_order rules_before rules_behind orders executions executed_shares done total is_dead live waiting side is_token_used is_closed kill_in_force rules_in_force is_entitled line_of stream
an_expiry_is_told = refl

pub the_end_of_the_day_is_told : TheEndOfTheDayIsTold
unfolding run next step_verdict verdict matching facts figures open_of_chosen live_value done_of_chosen done_value recent equal_recent reference first_forbidding written_order rules_before rules_behind orders executions executed_shares done total is_dead live waiting side is_token_used is_closed kill_in_force rules_in_force is_entitled line_of stream
the_end_of_the_day_is_told = refl

pub the_sample_is_sound : TheSampleIsSound
unfolding is_sound rules_before rules_behind
the_sample_is_sound = refl

pub the_sweep_is_showable : TheSweepIsShowable
unfolding run next step_verdict verdict matching facts figures open_of_chosen live_value done_of_chosen done_value recent equal_recent reference first_forbidding written_order rules_before rules_behind orders executions executed_shares done total is_dead live waiting side is_token_used is_closed kill_in_force rules_in_force is_entitled line_of stream
the_sweep_is_showable = refl

pub a_drop_copy_is_written : ADropCopyIsWritten
unfolding drop_copy_bytes
a_drop_copy_is_written = refl
