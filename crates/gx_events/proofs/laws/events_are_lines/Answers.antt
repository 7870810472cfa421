use Rattle.gx_events.proofs.Event_line.{events_are_lines}
use Rattle.gx_events.proofs.laws.events_are_lines.Goals as goal

pub returns : goal.returns
returns c = events_are_lines
