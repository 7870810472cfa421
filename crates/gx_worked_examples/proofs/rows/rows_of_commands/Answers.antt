use Rattle.gx_worked_examples.proofs.Commands_computed.{a_kill_ends_a_sweep, a_lift_lets_trade_again, a_set_limit_is_in_force, useless_commands_are_denied, names_are_written_in_either_case, readers_come_and_go, a_kill_stands_until_the_lift}
use Rattle.gx_worked_examples.proofs.rows.rows_of_commands.Goals as goal

pub returns : goal.returns
returns c = record {
  a_kill_ends_a_sweep = a_kill_ends_a_sweep;
  a_lift_lets_trade_again = a_lift_lets_trade_again;
  a_set_limit_is_in_force = a_set_limit_is_in_force;
  useless_commands_are_denied = useless_commands_are_denied;
  names_are_written_in_either_case = names_are_written_in_either_case;
  readers_come_and_go = readers_come_and_go;
  a_kill_stands_until_the_lift = a_kill_stands_until_the_lift;
}
