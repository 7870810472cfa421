use Rattle.gx_gate_state.proofs.Command_next.{none_owed_of_ends}
use Rattle.gx_gate_state.proofs.ends.tell_of_ends.Goals as goal

pub returns-in_default : goal.returns-in_default
returns-in_default c = none_owed_of_ends c.args.action.now c.args.moment c.args.orders.now.live c.args.streams.now c.in_default.ensures
