use Rattle.gx_laws.proofs.World_kinds.{closes_leave_none}
use Rattle.gx_laws.proofs.effects.closes_leave_none.Goals as goal

pub returns : goal.returns
returns c = closes_leave_none
