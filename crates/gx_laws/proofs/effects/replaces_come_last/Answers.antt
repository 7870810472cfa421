use Rattle.gx_laws.proofs.World_kinds.{replaces_come_last}
use Rattle.gx_laws.proofs.effects.replaces_come_last.Goals as goal

pub returns : goal.returns
returns c = replaces_come_last
