use Rattle.gx_laws.proofs.World_kinds.{denials_tell_who_asked}
use Rattle.gx_laws.proofs.effects.denials_tell_who_asked.Goals as goal

pub returns : goal.returns
returns c = denials_tell_who_asked
