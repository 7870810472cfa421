use Rattle.gx_laws.proofs.World_kinds.{logins_put_on, logouts_put_off}
use Rattle.gx_laws.proofs.effects.logins_and_logouts_change_one_line.Goals as goal

pub returns : goal.returns
returns c = record { on = logins_put_on; off = logouts_put_off }
