use Rattle.std.proofs.Common.{◌∙◌, ap, sym, Some, None, option_copied, false}
use Rattle.std.specs.Option.{option_map_or}
use Rattle.gx_policy.specs.{declared.policy.FileRule.FileRule, People.covers}
use Rattle.gx_rules.specs.Settings.{covers_in}
use Rattle.gx_rules.proofs.Rules_table.{rule_found}
use Rattle.gx_rules.proofs.rule_book.RuleBook.covers.Goals as goal

pub returns-in-Some : goal.returns-in-Some
returns-in-Some c =
    let found = rule_found c.self.inside.rules.entries c.args.rule (Some c.in-Some.found.now) (ap option_copied (sym c.in-Some.is) ∙ c.get.ensures.value) in
    record { covers = c.covers.ensures ∙ ap (λ rule. option_map_or (λ (r : FileRule). covers r.scope c.args.account) rule false) found ∙ ap (λ rules. covers_in rules c.args.rule c.args.account) c.self.view_is }

pub returns-in-None : goal.returns-in-None
returns-in-None c =
    let found = rule_found c.self.inside.rules.entries c.args.rule None (ap option_copied (sym c.in-None.is) ∙ c.get.ensures.value) in
    record { covers = ap (λ rule. option_map_or (λ (r : FileRule). covers r.scope c.args.account) rule false) found ∙ ap (λ rules. covers_in rules c.args.rule c.args.account) c.self.view_is }
