-- What one more record does to the limits, and whose limits they are.
use Rattle.gx_policy.specs.{Kinds.{kind_name, limit_of, with_limit, with_stocks}, declared.policy.{FileRule.FileRule, RuleKind.RuleKind}}
use Rattle.std.proofs.Common.{◌≡◌, ℕ, Bool, true, false, List, [], ◌∷◌, map, cond, refl, ◌∙◌, ap}
use Rattle.std.specs.{Prelude.{◌&&◌, Option, Some, None, is_some, option_and_then, find}, Option.option_map_or}
use Rattle.gx_units.specs.{Names.same_rule, declared.names.{RuleId.RuleId, Symbol.Symbol}}
use Rattle.gx_policy.proofs.Limit_stays.{limit_stays}
use Rattle.gx_desk.specs.declared.Action.{Action}
use Rattle.gx_history.specs.InForce.{with_stock, change_rule, rules_after, without_stock}
use Rattle.gx_rules.specs.Settings.{limit_in}
use Rattle.gx_events.specs.{declared.limits.RuleLimit.RuleLimit, Known.{counts_money, limit_entry, limit_named, limit_set, limits_after, limits_of}}

abbrev entry : RuleId → Bool → Option ℕ → RuleLimit
entry name is_money limit = record { rule = name; limit = limit; is_money = is_money }

abbrev is_money_of : RuleKind → Bool
is_money_of kind = counts_money (kind_name kind)

limit_with : (name : RuleId) (limit : ℕ) (kind : RuleKind)
    → limit_of (with_limit limit kind) ≡ cond (is_some (limit_of kind)) (Some limit) (limit_of kind)
limit_with name limit (RuleKind.Order kind before) = refl
limit_with name limit (RuleKind.Exposure kind before count) = refl
limit_with name limit (RuleKind.Listed kind stocks) = refl
limit_with name limit (RuleKind.Plain kind) = refl
limit_with name limit (RuleKind.Rate rate count) = refl
limit_with name limit (RuleKind.Repeat repeat count) = refl

name_with_limit : (limit : ℕ) (kind : RuleKind) → kind_name (with_limit limit kind) ≡ kind_name kind
name_with_limit limit (RuleKind.Order kind before) = refl
name_with_limit limit (RuleKind.Exposure kind before count) = refl
name_with_limit limit (RuleKind.Listed kind stocks) = refl
name_with_limit limit (RuleKind.Plain kind) = refl
name_with_limit limit (RuleKind.Rate rate count) = refl
name_with_limit limit (RuleKind.Repeat repeat count) = refl

name_with_stocks : (change : List Symbol → List Symbol) (kind : RuleKind) → kind_name (with_stocks change kind) ≡ kind_name kind
name_with_stocks change (RuleKind.Order kind before) = refl
name_with_stocks change (RuleKind.Exposure kind before count) = refl
name_with_stocks change (RuleKind.Listed kind stocks) = refl
name_with_stocks change (RuleKind.Plain kind) = refl
name_with_stocks change (RuleKind.Rate rate count) = refl
name_with_stocks change (RuleKind.Repeat repeat count) = refl

-- one rule's limit, set
one_set : (name : RuleId) (limit : ℕ) (rule : FileRule) → limit_entry (change_rule name (with_limit limit) rule) ≡ limit_set name limit (limit_entry rule)
one_set name limit rule = by_name (same_rule rule.name name) (is_some (limit_of rule.kind)) (limit_with name limit rule.kind) (name_with_limit limit rule.kind)
  where
    by_name : (b h : Bool) → limit_of (with_limit limit rule.kind) ≡ cond h (Some limit) (limit_of rule.kind) → kind_name (with_limit limit rule.kind) ≡ kind_name rule.kind
        → entry rule.name (is_money_of (cond b (with_limit limit rule.kind) rule.kind)) (limit_of (cond b (with_limit limit rule.kind) rule.kind))
        ≡ cond (b && h) (entry rule.name (is_money_of rule.kind) (Some limit)) (entry rule.name (is_money_of rule.kind) (limit_of rule.kind))
    by_name false h e k = refl
    by_name true true e k = λ i. entry rule.name (counts_money (k i)) (e i)
    by_name true false e k = λ i. entry rule.name (counts_money (k i)) (e i)

-- one rule's limit, where its stocks change
one_kept : (name : RuleId) (change : List Symbol → List Symbol) (rule : FileRule) → limit_entry (change_rule name (with_stocks change) rule) ≡ limit_entry rule
one_kept name change rule = by_name (same_rule rule.name name)
  where
    by_name : (b : Bool) → entry rule.name (is_money_of (cond b (with_stocks change rule.kind) rule.kind)) (limit_of (cond b (with_stocks change rule.kind) rule.kind)) ≡ limit_entry rule
    by_name false = refl
    by_name true = λ i. entry rule.name (counts_money (name_with_stocks change rule.kind i)) (limit_stays change rule.kind i)

all_set : (name : RuleId) (limit : ℕ) (rules : List FileRule)
    → limits_of (map (change_rule name (with_limit limit)) rules) ≡ map (limit_set name limit) (limits_of rules)
all_set name limit [] = refl
all_set name limit (rule ∷ rules) =
    ap (λ (l : RuleLimit). l ∷ limits_of (map (change_rule name (with_limit limit)) rules)) (one_set name limit rule)
    ∙ ap (λ (ls : List RuleLimit). limit_set name limit (limit_entry rule) ∷ ls) (all_set name limit rules)

all_kept : (name : RuleId) (change : List Symbol → List Symbol) (rules : List FileRule)
    → limits_of (map (change_rule name (with_stocks change)) rules) ≡ limits_of rules
all_kept name change [] = refl
all_kept name change (rule ∷ rules) =
    ap (λ (l : RuleLimit). l ∷ limits_of (map (change_rule name (with_stocks change)) rules)) (one_kept name change rule)
    ∙ ap (λ (ls : List RuleLimit). limit_entry rule ∷ ls) (all_kept name change rules)

by_action : (rules : List FileRule) (action : Action) → limits_of (rules_after rules action) ≡ limits_after (limits_of rules) action
by_action rules (Action.SetLimit name limit) = all_set name limit rules
by_action rules (Action.Restrict name stock) = all_kept name (with_stock stock) rules
by_action rules (Action.Unrestrict name stock) = all_kept name (without_stock stock) rules
by_action rules (Action.Kill account) = refl
by_action rules (Action.Lift account) = refl
by_action rules (Action.Grant reader account) = refl
by_action rules (Action.Revoke reader account) = refl
by_action rules Action.CloseDay = refl

-- the limits of the rules after a granted command, if there is one
pub limits_changed : (rules : List FileRule) (action : Option Action)
    → limits_of (option_map_or (rules_after rules) action rules) ≡ option_map_or (limits_after (limits_of rules)) action (limits_of rules)
limits_changed rules None = refl
limits_changed rules (Some action) = by_action rules action

-- the limit under a name is that of the rule of this name
pub limit_is_in : (rules : List FileRule) (name : RuleId) → limit_named (limits_of rules) name ≡ limit_in rules name
limit_is_in [] name = refl
limit_is_in (rule ∷ rules) name = by_name (limit_is_in rules name) (same_rule rule.name name)
  where
    by_name : limit_named (limits_of rules) name ≡ limit_in rules name → (b : Bool)
        → option_and_then (λ (l : RuleLimit). l.limit) (cond b (Some (limit_entry rule)) (find (λ (l : RuleLimit). same_rule l.rule name) (limits_of rules)))
        ≡ option_and_then (λ (r : FileRule). limit_of r.kind) (cond b (Some rule) (find (λ (r : FileRule). same_rule r.name name) rules))
    by_name rest true = refl
    by_name rest false = rest
