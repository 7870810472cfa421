use Rattle.gx_laws.proofs.Positions_sound.{live_are_few, positions_are_sound}
use Rattle.gx_laws.proofs.positions.positions_are_sound.Goals as goal

pub returns : goal.returns
returns c = record { sound = positions_are_sound; few = live_are_few }
