use Rattle.gx_laws.proofs.World_kinds.{kills_leave_the_others}
use Rattle.gx_laws.proofs.effects.kills_leave_the_others.Goals as goal

pub returns : goal.returns
returns c = kills_leave_the_others
