use Rattle.gx_policyfile.proofs.Policy_read.{read_keys}
use Rattle.gx_policyfile.proofs.laws.keys_are_known.Goals as goal

pub returns : goal.returns
returns c = read_keys
