use Rattle.gx_events.proofs.Lines_next.{limits_are_in_force}
use Rattle.gx_events.proofs.laws.limits_are_in_force.Goals as goal

pub returns : goal.returns
returns c = limits_are_in_force
