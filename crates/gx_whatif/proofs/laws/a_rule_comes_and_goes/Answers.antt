use Rattle.gx_whatif.proofs.Days_computed.{a_rule_comes, a_rule_goes}
use Rattle.gx_whatif.proofs.laws.a_rule_comes_and_goes.Goals as goal

pub returns : goal.returns
returns c = record { comes = a_rule_comes; goes = a_rule_goes }
