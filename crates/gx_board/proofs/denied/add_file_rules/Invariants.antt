use Rattle.std.proofs.Common.{◌≡◌, ◌++◌, [], map, take}
use Rattle.gx_policy.specs.declared.policy.FileRule.{FileRule}
use Rattle.gx_board.specs.Counting.{denied_row}
use Rattle.gx_board.proofs.denied.add_file_rules.Given as goal

abbrev pub invariant-loop-rule : goal.invariant-loop-rule
invariant-loop-rule l = l.rows.items ≡ l.initial.rows.items ++ map (denied_row []) (map (λ (rule : FileRule). rule.name) (take l.rule-index l.rules))
