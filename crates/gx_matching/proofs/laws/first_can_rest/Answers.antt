use Rattle.gx_matching.proofs.Resting_order.{first_is_latest}
use Rattle.gx_matching.proofs.laws.first_can_rest.Goals as goal

pub returns : goal.returns
returns c = first_is_latest
