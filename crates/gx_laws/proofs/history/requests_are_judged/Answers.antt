use Rattle.gx_laws.proofs.{Requests_judged.{left_by_request, granted_where_none, denied_by_first}, Records_showable.next_is_showable}
use Rattle.gx_laws.proofs.history.requests_are_judged.Goals as goal

pub returns : goal.returns
returns c = record { left = left_by_request; granted = granted_where_none; denied = denied_by_first; shown = next_is_showable }
