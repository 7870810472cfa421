use Rattle.gx_clock.proofs.Clock_moments.{goes_on}
use Rattle.gx_clock.proofs.laws.moments_go_on.Goals as goal

pub returns : goal.returns
returns c = goes_on
