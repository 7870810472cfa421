use Rattle.gx_clock.proofs.Clock_moments.{behind}
use Rattle.gx_clock.proofs.laws.local_time_is_behind.Goals as goal

pub returns : goal.returns
returns c = behind
