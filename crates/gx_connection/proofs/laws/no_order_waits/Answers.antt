use Rattle.gx_connection.proofs.Waiting_none.{none_waits}
use Rattle.gx_connection.proofs.laws.no_order_waits.Goals as goal

pub returns : goal.returns
returns c = none_waits
