use Rattle.gx_worked_examples.proofs.Reports_computed.{a_kill_is_told, a_denied_value_is_told, a_killed_account_is_told, a_lift_is_told, a_cancel_is_told, a_cut_is_told, a_replace_is_told, an_expiry_is_told, the_end_of_the_day_is_told, the_sample_is_sound, the_sweep_is_showable, a_drop_copy_is_written}
use Rattle.gx_worked_examples.proofs.rows.rows_of_reports.Goals as goal

pub returns : goal.returns
returns c = record {
  a_kill_is_told = a_kill_is_told;
  a_denied_value_is_told = a_denied_value_is_told;
  a_killed_account_is_told = a_killed_account_is_told;
  a_lift_is_told = a_lift_is_told;
  a_cancel_is_told = a_cancel_is_told;
  a_cut_is_told = a_cut_is_told;
  a_replace_is_told = a_replace_is_told;
  an_expiry_is_told = an_expiry_is_told;
  the_end_of_the_day_is_told = the_end_of_the_day_is_told;
  the_sample_is_sound = the_sample_is_sound;
  the_sweep_is_showable = the_sweep_is_showable;
  a_drop_copy_is_written = a_drop_copy_is_written;
}
