use Rattle.gx_laws.proofs.Fills_fair.{fills_are_fair}
use Rattle.gx_laws.proofs.effects.fills_are_fair.Goals as goal

pub returns : goal.returns
returns c = fills_are_fair
