use Rattle.gx_script_run.proofs.Lines_text.{lines_join, lines_have_no_end}
use Rattle.gx_script_run.proofs.laws.lines_make_the_text.Goals as goal

pub returns-clause-text : goal.returns-clause-text
returns-clause-text c = lines_join

pub returns-clause-lines : goal.returns-clause-lines
returns-clause-lines c = lines_have_no_end
