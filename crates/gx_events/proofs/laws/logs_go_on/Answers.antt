use Rattle.gx_events.proofs.Lines_next.{logs_go_on}
use Rattle.gx_events.proofs.laws.logs_go_on.Goals as goal

pub returns : goal.returns
returns c = logs_go_on
