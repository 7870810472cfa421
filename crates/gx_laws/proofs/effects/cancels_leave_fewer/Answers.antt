use Rattle.gx_laws.proofs.World_kinds.{cancels_leave_fewer}
use Rattle.gx_laws.proofs.effects.cancels_leave_fewer.Goals as goal

pub returns : goal.returns
returns c = cancels_leave_fewer
