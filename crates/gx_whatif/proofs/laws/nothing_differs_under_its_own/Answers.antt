use Rattle.gx_whatif.proofs.OwnPolicy_same.{nothing_differs}
use Rattle.gx_whatif.proofs.laws.nothing_differs_under_its_own.Goals as goal

pub returns : goal.returns
returns c = nothing_differs
