use Rattle.gx_laws.proofs.InForce_next.{rules_in_force_next}
use Rattle.gx_rules.proofs.laws.rules_after_one_more.Goals as goal

pub returns : goal.returns
returns c = rules_in_force_next
