use Rattle.gx_laws.proofs.World_kinds.{matches_keep_in_force}
use Rattle.gx_laws.proofs.effects.matches_keep_in_force.Goals as goal

pub returns : goal.returns
returns c = matches_keep_in_force
