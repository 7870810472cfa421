use Rattle.gx_laws.proofs.World_next.{world_next, worlds_are_runs}
use Rattle.gx_laws.proofs.effects.the_world_goes_on.Goals as goal

pub returns : goal.returns
returns c = record { step = world_next; run = worlds_are_runs }
