use Rattle.gx_connection.proofs.Run_next.{nothing_follows}
use Rattle.gx_connection.proofs.laws.nothing_follows.Goals as goal

pub returns : goal.returns
returns c = nothing_follows
