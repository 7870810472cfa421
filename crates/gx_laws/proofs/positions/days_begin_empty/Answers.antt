use Rattle.gx_laws.proofs.Positions_next.{days_begin_empty}
use Rattle.gx_laws.proofs.positions.days_begin_empty.Goals as goal

pub returns : goal.returns
returns c = days_begin_empty
