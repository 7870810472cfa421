use Rattle.gx_policyfile.proofs.Policy_read.{read_sound}
use Rattle.gx_policyfile.proofs.laws.each_is_sound.Goals as goal

pub returns : goal.returns
returns c = read_sound
