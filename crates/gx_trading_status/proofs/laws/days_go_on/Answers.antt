use Rattle.gx_trading_status.proofs.Status_next.{day_next}
use Rattle.gx_trading_status.proofs.laws.days_go_on.Goals as goal

pub returns : goal.returns
returns c = day_next
