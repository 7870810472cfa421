-- What changed settings leave as it was.
use Rattle.std.specs.{Option.option_map_or, Prelude.{◌≡◌, ℕ, IsTrue, IsFalse, is_some, List, [], ◌∷◌, ◌++◌, map, Some}}
use Rattle.gx_units.specs.{Names.{same_rule, same_stock}, declared.names.{RuleId.RuleId, Symbol.Symbol}}
use Rattle.gx_history.specs.{declared.record.RecordData.RecordData, Asking.knows_stocks, InForce.{change_rule, rules_after, rules_in_force}, Requests.granted_action}
use Rattle.gx_policy.specs.{declared.policy.{FileRule.FileRule, PolicyData.PolicyData, RuleKind.RuleKind, Scope.Scope}, People.rule_in}
use Rattle.gx_rules.specs.Settings.{limit_in, lists_in, with_stock_restricted, with_stock_unrestricted, with_limit_of}

-- one more record changes the rules by the command that it grants, if it grants one
abbrev pub RulesAfterOneMore : Type 0
RulesAfterOneMore = (policy : PolicyData) (history : List RecordData) (r : RecordData) →
    rules_in_force policy (history ++ r ∷ []) ≡ option_map_or (rules_after (rules_in_force policy history)) (granted_action r) (rules_in_force policy history)

-- a change of one rule leaves the rules of other names
abbrev pub OtherRulesStay : Type 0
OtherRulesStay = (name other : RuleId) (change : RuleKind → RuleKind) (rules : List FileRule) → IsFalse (same_rule name other) →
    rule_in (map (change_rule name change) rules) other ≡ rule_in rules other

-- the limit that was set is in force
abbrev pub SetLimitsAreInForce : Type 0
SetLimitsAreInForce = (name : RuleId) (value : ℕ) (rules : List FileRule) → IsTrue (is_some (limit_in rules name)) →
    limit_in (with_limit_of name value rules) name ≡ Some value

-- a restricted stock is on the list
abbrev pub RestrictedAreListed : Type 0
RestrictedAreListed = (name : RuleId) (stock : Symbol) (rules : List FileRule) → IsTrue (knows_stocks (rule_in rules name)) →
    IsTrue (lists_in (with_stock_restricted name stock rules) name stock)

-- an unrestricted stock is not
abbrev pub UnrestrictedAreNotListed : Type 0
UnrestrictedAreNotListed = (name : RuleId) (stock : Symbol) (rules : List FileRule) →
    IsFalse (lists_in (with_stock_unrestricted name stock rules) name stock)

-- the other stocks of the list stay on it, and no other comes
abbrev pub OtherStocksStay : (RuleId → Symbol → List FileRule → List FileRule) → Type 0
OtherStocksStay change = (name : RuleId) (stock other : Symbol) (rules : List FileRule) → IsFalse (same_stock stock other) →
    lists_in (change name stock rules) name other ≡ lists_in rules name other

-- the names and the scopes of rules, in their order
abbrev pub names_of : List FileRule → List RuleId
names_of rules = map (λ (r : FileRule). r.name) rules

abbrev pub scopes_of : List FileRule → List Scope
scopes_of rules = map (λ (r : FileRule). r.scope) rules

-- a change of a rule's kind changes no name and no scope
abbrev pub NamesAndScopesStay : Type 0
NamesAndScopesStay = (name : RuleId) (change : RuleKind → RuleKind) (rules : List FileRule) →
    (names_of (map (change_rule name change) rules) ≡ names_of rules) × (scopes_of (map (change_rule name change) rules) ≡ scopes_of rules)
