use Rattle.gx_laws.proofs.World_kinds.{grants_change_one_sight, revokes_change_one_sight}
use Rattle.gx_laws.proofs.effects.grants_and_revokes_change_one_sight.Goals as goal

pub returns : goal.returns
returns c = record { grants = grants_change_one_sight; revokes = revokes_change_one_sight }
