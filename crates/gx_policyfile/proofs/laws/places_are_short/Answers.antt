use Rattle.gx_policyfile.proofs.Policy_read.{read_short}
use Rattle.gx_policyfile.proofs.laws.places_are_short.Goals as goal

pub returns : goal.returns
returns c = read_short
