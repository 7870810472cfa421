-- A record that sets no limit of a rule leaves its limit as it is.
use Rattle.gx_policy.specs.{Kinds.{limit_of, with_limit, with_stocks}, declared.policy.{FileRule.FileRule, PolicyData.PolicyData, RuleKind.RuleKind}, People.rule_in}
use Rattle.std.proofs.{Common.{◌≡◌, ℕ, Bool, true, false, cond, List, [], ◌∷◌, ◌++◌, map, refl, sym, ap, ◌∙◌}, lemmas.Cmp.nat_list_eq_equiv}
use Rattle.std.specs.{Prelude.{Option, Some, None, option_and_then}, Option.option_map_or}
use Rattle.gx_units.specs.{Names.same_rule, declared.names.{RuleId.RuleId, Symbol.Symbol}}
use Rattle.gx_policy.proofs.Limit_stays.{limit_stays}
use Rattle.gx_desk.specs.declared.Action.{Action}
use Rattle.gx_history.specs.{declared.record.RecordData.RecordData, InForce.{change_rule, rules_after, rules_in_force}, Requests.granted_action}
use Rattle.gx_laws.proofs.InForce_next.{rules_in_force_next, rules_in_force_none}
use Rattle.gx_records.specs.State.{limit_in_force}
use Rattle.gx_peaks.specs.Touching.{set_by, sets_limit}

-- the limit of the rule of this name among these
abbrev pub limit_among : List FileRule → RuleId → Option ℕ
limit_among rules name = option_and_then (λ (rule : FileRule). limit_of rule.kind) (rule_in rules name)

-- before all records the file's limits are in force
pub file_limit_is : (policy : PolicyData) (name : RuleId) → limit_among policy.rules name ≡ limit_in_force policy [] name
file_limit_is policy name = ap (λ (rules : List FileRule). limit_among rules name) (sym (rules_in_force_none policy))

module _ (named : RuleId) (change : RuleKind → RuleKind) (name : RuleId)
    (keeps : (rule : FileRule) → same_rule rule.name name ≡ true → limit_of (cond (same_rule rule.name named) (change rule.kind) rule.kind) ≡ limit_of rule.kind) where
  limit_is_same : (rules : List FileRule) → limit_among (map (change_rule named change) rules) name ≡ limit_among rules name
  limit_is_same [] = refl
  limit_is_same (rule ∷ rules) = by (same_rule rule.name name) refl (limit_is_same rules)
    where
      by : (b : Bool) → same_rule rule.name name ≡ b → limit_among (map (change_rule named change) rules) name ≡ limit_among rules name
          → option_and_then (λ (r : FileRule). limit_of r.kind) (cond b (Some (change_rule named change rule)) (rule_in (map (change_rule named change) rules) name))
          ≡ option_and_then (λ (r : FileRule). limit_of r.kind) (cond b (Some rule) (rule_in rules name))
      by true e rest = keeps rule e
      by false e rest = rest

limit_elsewhere : (named name : RuleId) (limit : ℕ) → same_rule named name ≡ false → (rule : FileRule) → same_rule rule.name name ≡ true
    → limit_of (cond (same_rule rule.name named) (with_limit limit rule.kind) rule.kind) ≡ limit_of rule.kind
limit_elsewhere named name limit apart rule e =
    let other : same_rule rule.name named ≡ false = nat_list_eq_equiv.congr rule.name.bytes name.bytes named.bytes e ∙ (nat_list_eq_equiv.symm name.bytes named.bytes ∙ apart) in
    ap (λ (b : Bool). limit_of (cond b (with_limit limit rule.kind) rule.kind)) other

stocks_anywhere : (named name : RuleId) (change : List Symbol → List Symbol) (rule : FileRule) → same_rule rule.name name ≡ true
    → limit_of (cond (same_rule rule.name named) (with_stocks change rule.kind) rule.kind) ≡ limit_of rule.kind
stocks_anywhere named name change rule e = by (same_rule rule.name named)
  where
    by : (b : Bool) → limit_of (cond b (with_stocks change rule.kind) rule.kind) ≡ limit_of rule.kind
    by true = limit_stays change rule.kind
    by false = refl

by_action : (name : RuleId) (rules : List FileRule) (action : Action) → option_map_or (λ (named : RuleId). same_rule named name) (set_by action) false ≡ false → limit_among (rules_after rules action) name ≡ limit_among rules name
by_action name rules (Action.SetLimit named limit) apart = limit_is_same named (with_limit limit) name (limit_elsewhere named name limit apart) rules
by_action name rules (Action.Restrict named stock) apart = limit_is_same named (with_stocks _) name (stocks_anywhere named name _) rules
by_action name rules (Action.Unrestrict named stock) apart = limit_is_same named (with_stocks _) name (stocks_anywhere named name _) rules
by_action name rules (Action.Kill account) apart = refl
by_action name rules (Action.Lift account) apart = refl
by_action name rules (Action.Grant written account) apart = refl
by_action name rules (Action.Revoke written account) apart = refl
by_action name rules Action.CloseDay apart = refl

-- behind a record that does not set it
pub limit_is_kept : (policy : PolicyData) (records : List RecordData) (r : RecordData) (name : RuleId) → sets_limit r name ≡ false
    → limit_in_force policy (records ++ r ∷ []) name ≡ limit_in_force policy records name
limit_is_kept policy records r name apart = ap (λ (rules : List FileRule). limit_among rules name) (rules_in_force_next policy records r) ∙ by (granted_action r) apart
  where
    by : (action : Option Action) → option_map_or (λ (named : RuleId). same_rule named name) (option_and_then set_by action) false ≡ false
        → limit_among (option_map_or (rules_after (rules_in_force policy records)) action (rules_in_force policy records)) name ≡ limit_among (rules_in_force policy records) name
    by None none = refl
    by (Some action) none = by_action name (rules_in_force policy records) action none
