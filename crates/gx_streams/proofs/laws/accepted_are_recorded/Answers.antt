use Rattle.gx_streams.proofs.Accepted_recorded.{accepted_are_recorded, part_is_recorded}
use Rattle.gx_streams.proofs.laws.accepted_are_recorded.Goals as goal

pub returns : goal.returns
returns c = record { all = accepted_are_recorded; part = part_is_recorded }
