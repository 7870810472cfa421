use Rattle.std.proofs.Common.{◌≡◌, ◌++◌, take}
use Rattle.gx_warnings.specs.Moving.{figures_under}
use Rattle.gx_warnings.proofs.table.WarningTable.add_rule.Given as goal

abbrev pub invariant-loop-place : goal.invariant-loop-place
invariant-loop-place l = l.list.items ≡ l.initial.list.items ++ figures_under l.rule (take l.place l.self.entries.entries)
