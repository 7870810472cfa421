use Rattle.gx_laws.proofs.{InForce_next.{is_closed_next, last_moment_next, line_of_next}, Kills_next.kill_in_force_next, Orders_next.is_token_used_next}
use Rattle.gx_laws.proofs.history.states_go_on.Goals as goal

pub returns : goal.returns
returns c = record { tokens = is_token_used_next; lines = line_of_next; kills = kill_in_force_next; day = is_closed_next; moment = last_moment_next }
