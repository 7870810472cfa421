use Rattle.gx_policy.specs.{Kinds.limit_of, declared.policy.FileRule.FileRule}
use Rattle.std.proofs.Common.{◌∙◌, ap, sym, Some, None, option_copied}
use Rattle.std.specs.Option.{option_and_then}
use Rattle.gx_rules.specs.Settings.{limit_in}
use Rattle.gx_rules.proofs.Rules_table.{rule_found}
use Rattle.gx_rules.proofs.rule_book.RuleBook.limit.Goals as goal

pub returns-in-Some : goal.returns-in-Some
returns-in-Some c =
    let found = rule_found c.self.inside.rules.entries c.args.rule (Some c.in-Some.found.now) (ap option_copied (sym c.in-Some.is) ∙ c.get.ensures.value) in
    record { limit = c.limit.ensures ∙ ap (option_and_then (λ (r : FileRule). limit_of r.kind)) found ∙ ap (λ rules. limit_in rules c.args.rule) c.self.view_is }

pub returns-in-None : goal.returns-in-None
returns-in-None c =
    let found = rule_found c.self.inside.rules.entries c.args.rule None (ap option_copied (sym c.in-None.is) ∙ c.get.ensures.value) in
    record { limit = ap (option_and_then (λ (r : FileRule). limit_of r.kind)) found ∙ ap (λ rules. limit_in rules c.args.rule) c.self.view_is }
