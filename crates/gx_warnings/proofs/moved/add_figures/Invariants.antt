use Rattle.std.proofs.Common.{◌≡◌, ◌++◌, map, take}
use Rattle.std.specs.Prelude.{filter}
use Rattle.gx_policy.specs.declared.policy.FileRule.{FileRule}
use Rattle.gx_peaks.specs.Figures.{counts}
use Rattle.gx_warnings.specs.Moving.{figure_under}
use Rattle.gx_warnings.proofs.moved.add_figures.Given as goal

abbrev pub invariant-loop-rule : goal.invariant-loop-rule
invariant-loop-rule l = l.list.items ≡ l.initial.list.items ++ map (figure_under l.account l.side) (filter (λ (rule : FileRule). counts rule l.account l.side) (take l.rule-index l.rules))
