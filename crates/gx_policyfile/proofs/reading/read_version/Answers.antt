use Rattle.gx_policyfile.proofs.{Policy_answered.never_refused, Policy_parts.numbered}
use Rattle.gx_policyfile.proofs.reading.read_version.Goals as goal

pub returns-clause-fault : goal.returns-clause-fault
returns-clause-fault c = never_refused c.number.result _ _ c.number.ensures (numbered _ c.in_ok-accepted.ensures.ok)
