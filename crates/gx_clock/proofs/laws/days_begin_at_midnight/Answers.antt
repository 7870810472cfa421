use Rattle.gx_clock.proofs.Clock_moments.{local_day}
use Rattle.gx_clock.proofs.laws.days_begin_at_midnight.Goals as goal

pub returns : goal.returns
returns c = local_day
