use Rattle.std.proofs.Common.{◌≡◌, take}
use Rattle.gx_rules.specs.Books.{rules_of_entries}
use Rattle.gx_rules.proofs.rule_book.kept_rules.Given as goal

abbrev pub invariant-loop-rule : goal.invariant-loop-rule
invariant-loop-rule l = rules_of_entries l.kept.entries ≡ take l.rule-index l.rules
