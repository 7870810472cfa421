use Rattle.gx_laws.proofs.{Turns_allowed.records_may_come, Positions_next.positions_go_on}
use Rattle.gx_laws.proofs.positions.positions_go_on.Goals as goal

pub returns : goal.returns
returns c = record { change = positions_go_on; may_come = records_may_come }
