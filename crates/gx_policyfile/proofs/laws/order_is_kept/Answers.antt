use Rattle.gx_policyfile.proofs.Policy_read.{read_order}
use Rattle.gx_policyfile.proofs.laws.order_is_kept.Goals as goal

pub returns : goal.returns
returns c = read_order
