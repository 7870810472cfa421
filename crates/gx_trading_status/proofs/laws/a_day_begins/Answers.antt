use Rattle.gx_trading_status.proofs.Status_next.{day_begins}
use Rattle.gx_trading_status.proofs.laws.a_day_begins.Goals as goal

pub returns : goal.returns
returns c = day_begins
