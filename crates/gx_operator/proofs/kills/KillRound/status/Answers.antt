use Rattle.gx_operator.proofs.Kills_end.{zero_where_stopped}
use Rattle.gx_operator.proofs.kills.KillRound.status.Goals as goal

pub returns-clause-zero : goal.returns-clause-zero
returns-clause-zero c = zero_where_stopped c.args.self.now _ c.status_counted.ensures
