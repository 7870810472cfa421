use Rattle.gx_session.proofs.Events_replies.{turn_ends, all_parting, late_once}
use Rattle.gx_session.proofs.laws.ended_sessions_are_silent.Goals as goal

pub returns-clause-over : goal.returns-clause-over
returns-clause-over c = turn_ends

pub returns-clause-silent : goal.returns-clause-silent
returns-clause-silent c = all_parting

pub returns-clause-once : goal.returns-clause-once
returns-clause-once c = late_once
