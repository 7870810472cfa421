use Rattle.gx_streams.proofs.UserLists_found.{reports_are, told_are}
use Rattle.gx_streams.proofs.laws.reports_are_streams.Goals as goal

pub returns : goal.returns
returns c = record { reports = reports_are; known = told_are }
