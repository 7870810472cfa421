use Rattle.gx_script_run.proofs.Lines_text.{line_at_end, no_end_found, parts_at_end, where_none}
use Rattle.gx_script_run.proofs.script.first_line.Goals as goal

pub returns-in_err-end-clause-none : goal.returns-in_err-end-clause-none
returns-in_err-end-clause-none c = where_none c.from_residual.result _ (no_end_found c.args.text.now c.in_err-end.ensures)

pub returns-clause-parts : goal.returns-clause-parts
returns-clause-parts c = parts_at_end c.args.text.now c.in_ok-end.end c.in_ok-end.ensures

pub returns-clause-line : goal.returns-clause-line
returns-clause-line c = line_at_end c.args.text.now c.in_ok-end.end c.in_ok-end.ensures
