use Rattle.gx_policyfile.proofs.Policy_read.{read_names_differ}
use Rattle.gx_policyfile.proofs.laws.names_in_places_differ.Goals as goal

pub returns : goal.returns
returns c = read_names_differ
