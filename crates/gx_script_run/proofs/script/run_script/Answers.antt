use Rattle.gx_script_run.proofs.Script_end.{all_of_script, all_with_bad}
use Rattle.gx_script_run.proofs.script.run_script.Goals as goal

pub returns-in-Ok-clause-all : goal.returns-in-Ok-clause-all
returns-in-Ok-clause-all g c = all_of_script _ _ _ _ c.in-Ok.ensures.script

pub returns-clause-first_bad : goal.returns-clause-first_bad
returns-clause-first_bad g c = all_with_bad _ _ _ _ c.in-Err.ensures.bad
