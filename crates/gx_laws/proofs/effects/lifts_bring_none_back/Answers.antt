use Rattle.gx_laws.proofs.World_kinds.{lifts_bring_none_back}
use Rattle.gx_laws.proofs.effects.lifts_bring_none_back.Goals as goal

pub returns : goal.returns
returns c = lifts_bring_none_back
