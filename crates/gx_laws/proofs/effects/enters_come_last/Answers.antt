use Rattle.gx_laws.proofs.World_kinds.{enters_come_last}
use Rattle.gx_laws.proofs.effects.enters_come_last.Goals as goal

pub returns : goal.returns
returns c = enters_come_last
