use Rattle.gx_script_run.proofs.Lines_cut.{nothing_follows}
use Rattle.gx_script_run.proofs.laws.nothing_follows_a_bad_line.Goals as goal

pub returns : goal.returns
returns c = nothing_follows
