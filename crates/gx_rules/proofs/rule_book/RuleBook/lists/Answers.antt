use Rattle.std.proofs.Common.{◌∙◌, ap, sym, Some, None, option_copied}
use Rattle.gx_history.specs.Asking.{has_stock}
use Rattle.gx_rules.specs.Settings.{lists_in}
use Rattle.gx_rules.proofs.Rules_table.{rule_found}
use Rattle.gx_rules.proofs.rule_book.RuleBook.lists.Goals as goal

pub returns-in-Some : goal.returns-in-Some
returns-in-Some c =
    let found = rule_found c.self.inside.rules.entries c.args.rule (Some c.in-Some.found.now) (ap option_copied (sym c.in-Some.is) ∙ c.get.ensures.value) in
    record { lists = c.lists.ensures ∙ ap (λ rule. has_stock rule c.args.stock) found ∙ ap (λ rules. lists_in rules c.args.rule c.args.stock) c.self.view_is }

pub returns-in-None : goal.returns-in-None
returns-in-None c =
    let found = rule_found c.self.inside.rules.entries c.args.rule None (ap option_copied (sym c.in-None.is) ∙ c.get.ensures.value) in
    record { lists = ap (λ rule. has_stock rule c.args.stock) found ∙ ap (λ rules. lists_in rules c.args.rule c.args.stock) c.self.view_is }
