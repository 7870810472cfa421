use Rattle.std.proofs.Common.{◌≡◌, ◌++◌, take}
use Rattle.gx_script_text.specs.Printing.{report_lines}
use Rattle.gx_script_text.proofs.printing.append_reports.Given as goal

abbrev pub invariant-loop-index : goal.invariant-loop-index
invariant-loop-index l = l.text.items ≡ l.initial.text.items ++ report_lines l.user 1 (take l.index l.reports)
