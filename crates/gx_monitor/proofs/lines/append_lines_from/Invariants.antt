use Rattle.std.proofs.Common.{◌≡◌, ◌++◌, drop}
use Rattle.std.specs.Prelude.{flat_map}
use Rattle.gx_warnings.specs.Keeping.{warnings_of}
use Rattle.gx_monitor.specs.Lines.{told_line}
use Rattle.gx_monitor.proofs.lines.append_lines_from.Given as goal

abbrev pub invariant-loop-at : goal.invariant-loop-at
invariant-loop-at l =
    l.text.items ++ flat_map (told_line l.form l.policy) (drop l.at (warnings_of l.warnings)) ≡ l.initial.text.items ++ flat_map (told_line l.form l.policy) (drop l.place (warnings_of l.warnings))
