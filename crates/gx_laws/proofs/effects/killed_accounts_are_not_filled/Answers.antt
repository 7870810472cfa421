use Rattle.gx_laws.proofs.Sweeps_ended.{killed_are_not_filled}
use Rattle.gx_laws.proofs.effects.killed_accounts_are_not_filled.Goals as goal

pub returns : goal.returns
returns c = killed_are_not_filled
