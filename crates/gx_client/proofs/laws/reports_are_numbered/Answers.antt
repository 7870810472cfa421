use Rattle.gx_client.proofs.Session_next.{reports_are_numbered}
use Rattle.gx_client.proofs.laws.reports_are_numbered.Goals as goal

pub returns : goal.returns
returns c = reports_are_numbered
