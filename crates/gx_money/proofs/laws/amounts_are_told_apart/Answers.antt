use Rattle.gx_money.proofs.Amounts_apart.{amounts_are_told_apart}
use Rattle.gx_money.proofs.laws.amounts_are_told_apart.Goals as goal

pub returns : goal.returns
returns c = amounts_are_told_apart
