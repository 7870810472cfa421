use Rattle.std.proofs.Common.{◌≡◌, [], map, take}
use Rattle.gx_policy.specs.{RuleNames.rule_id, declared.rule_name.TheConstants.BUILT_IN}
use Rattle.gx_board.specs.Counting.{denied_row}
use Rattle.gx_board.proofs.denied.built_in_rows.Given as goal

abbrev pub invariant-loop-rule : goal.invariant-loop-rule
invariant-loop-rule l = l.rows.items ≡ map (denied_row []) (map rule_id (take l.rule-index BUILT_IN))
