-- How a book keeps the rules: each under its name, the stocks apart from the kind.
use Rattle.gx_policy.specs.{Kinds.{stocks_of, with_stocks}, declared.policy.{FileRule.FileRule, RuleKind.RuleKind}, Lists.are_distinct}
use Rattle.std.specs.{Prelude.{Bool, true, List, map}, Option.option_map_or}
use Rattle.gx_units.specs.{Names.same_stock, declared.names.RuleId.RuleId}
use Rattle.gx_rules.specs.declared.book_rule.BookRule.{BookRule}

-- the kind with the stocks that are kept apart
abbrev pub book_kind : BookRule → RuleKind
book_kind rule = with_stocks (λ listed. rule.stocks.keys) rule.kind

-- the rule of this name
abbrev pub rule_named : RuleId → BookRule → FileRule
rule_named name rule = record { name = name; kind = book_kind rule; scope = rule.scope }

-- the rules, in the order of the entries
abbrev pub rules_of_entries : List (RuleId × BookRule) → List FileRule
rules_of_entries entries = map (λ e. rule_named e.0 e.1) entries

-- no stock stands twice on the rule's list
abbrev pub lists_once : FileRule → Bool
lists_once rule = option_map_or (are_distinct same_stock) (stocks_of rule.kind) true
