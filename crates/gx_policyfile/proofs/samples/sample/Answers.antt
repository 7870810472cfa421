use Rattle.std.proofs.Common.{ap, ◌∙◌}
use Rattle.gx_policyfile.specs.Policies.{means}
use Rattle.gx_policy.specs.Samples as specs
use Rattle.gx_policyfile.proofs.{Sample_computed.sample_is_read, Policy_answered.{read_value, read_memory}}
use Rattle.gx_policyfile.proofs.samples.sample.Goals as goal

pub returns-clause-text : goal.returns-clause-text
returns-clause-text c = sample_is_read

pub returns-clause-policy : goal.returns-clause-policy
returns-clause-policy c = read_value c.read_policy.result _ specs.sample (ap means c.as_bytes.ensures.value ∙ sample_is_read) c.read_policy.ensures.policy

pub returns-clause-err : goal.returns-clause-err
returns-clause-err c = read_memory c.read_policy.result _ specs.sample (ap means c.as_bytes.ensures.value ∙ sample_is_read) c.read_policy.ensures.fault
