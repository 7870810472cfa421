use Rattle.std.proofs.Common.{◌∙◌, ap, sym, Some, None, option_copied}
use Rattle.gx_history.specs.Asking.{knows_stocks}
use Rattle.gx_policy.specs.People.{rule_in}
use Rattle.gx_rules.proofs.Rules_table.{rule_found}
use Rattle.gx_rules.proofs.rule_book.RuleBook.has_list.Goals as goal

pub returns-in-Some : goal.returns-in-Some
returns-in-Some c =
    let found = rule_found c.self.inside.rules.entries c.args.rule (Some c.in-Some.found.now) (ap option_copied (sym c.in-Some.is) ∙ c.get.ensures.value) in
    record { has_list = c.has_list.ensures.with_stocks ∙ ap knows_stocks found ∙ ap (λ rules. knows_stocks (rule_in rules c.args.rule)) c.self.view_is }

pub returns-in-None : goal.returns-in-None
returns-in-None c =
    let found = rule_found c.self.inside.rules.entries c.args.rule None (ap option_copied (sym c.in-None.is) ∙ c.get.ensures.value) in
    record { has_list = ap knows_stocks found ∙ ap (λ rules. knows_stocks (rule_in rules c.args.rule)) c.self.view_is }
