-- The file's rules with their settings: what they are, and what commands make of them.
use Rattle.gx_policy.specs.{Kinds.{limit_of, with_limit, with_stocks}, declared.policy.FileRule.FileRule, People.{covers, rule_in}}
use Rattle.std.specs.{Prelude.{ℕ, Bool, false, List, map, Option, option_and_then}, Option.option_map_or}
use Rattle.gx_units.specs.declared.names.{AccountName.AccountName, RuleId.RuleId, Symbol.Symbol}
use Rattle.gx_history.specs.{Asking.has_stock, InForce.{with_stock, without_stock, change_rule}}

-- the rule's limit, if it has one that Set Limit may change
abbrev pub limit_in : List FileRule → RuleId → Option ℕ
limit_in rules name = option_and_then (λ (r : FileRule). limit_of r.kind) (rule_in rules name)

-- the rule has a list of stocks, and the stock is on it
abbrev pub lists_in : List FileRule → RuleId → Symbol → Bool
lists_in rules name stock = has_stock (rule_in rules name) stock

-- the account is in the rule's scope
abbrev pub covers_in : List FileRule → RuleId → AccountName → Bool
covers_in rules name account = option_map_or (λ (r : FileRule). covers r.scope account) (rule_in rules name) false

-- the rules with this limit
abbrev pub with_limit_of : RuleId → ℕ → List FileRule → List FileRule
with_limit_of name value rules = map (change_rule name (with_limit value)) rules

-- the rules with the stock on the list
abbrev pub with_stock_restricted : RuleId → Symbol → List FileRule → List FileRule
with_stock_restricted name stock rules = map (change_rule name (with_stocks (with_stock stock))) rules

-- the rules with the stock off the list
abbrev pub with_stock_unrestricted : RuleId → Symbol → List FileRule → List FileRule
with_stock_unrestricted name stock rules = map (change_rule name (with_stocks (without_stock stock))) rules
