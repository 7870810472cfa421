use Rattle.gx_laws.proofs.Moves_allowed.{may_move}
use Rattle.gx_laws.proofs.effects.moves_are_allowed.Goals as goal

pub returns : goal.returns
returns c = may_move
