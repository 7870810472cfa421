use Rattle.std.proofs.Common.{◌∙◌, ap, length, ◌<◌, arith}
use Rattle.gx_rules.specs.Books.{rules_of_entries}
use Rattle.gx_rules.proofs.Entries_next.{next_rule}
use Rattle.gx_rules.proofs.rule_book.kept_rules.Goals as goal

pub loop-rule-preserved : goal.loop-rule-preserved
loop-rule-preserved c =
    let within : c.loop-rule.rule-index < length c.args.rules.now = omega (arith, c.loop-rule-test.true) in
    ap rules_of_entries c.in_ok-insert.ensures.entries
    ∙ next_rule c.args.rules.now c.loop-rule.kept.entries c.loop-rule.rule-index c.rule-item.result _ c.in_ok-new.field-0 c.requires.names_differ within c.loop-rule.invariant c.in_ok-new.ensures c.rule-item.is
