use Rattle.gx_connection.proofs.{Line_kept.run_keeps, Run_logout.run_may_leave}
use Rattle.gx_connection.proofs.laws.whoever_is_on_may_leave.Goals as goal

pub returns-clause-line : goal.returns-clause-line
returns-clause-line c = run_keeps

pub returns-clause-logout : goal.returns-clause-logout
returns-clause-logout c = run_may_leave
