-- A rule without a limit stays without one.
use Rattle.gx_policy.specs.{Kinds.{limit_of, with_limit}, declared.policy.{FileRule.FileRule, PolicyData.PolicyData, RuleKind.RuleKind}, People.rule_in}
use Rattle.std.proofs.Common.{◌≡◌, ℕ, Bool, true, false, cond, List, [], ◌∷◌, ◌++◌, map, refl, ap, ◌∙◌}
use Rattle.std.specs.{Prelude.{Option, Some, None, option_and_then}, Option.option_map_or}
use Rattle.gx_units.specs.{Names.same_rule, declared.names.RuleId.RuleId}
use Rattle.gx_desk.specs.declared.Action.{Action}
use Rattle.gx_history.specs.{declared.record.RecordData.RecordData, InForce.{change_rule, rules_after, rules_in_force}, Requests.granted_action}
use Rattle.gx_laws.proofs.InForce_next.{rules_in_force_next}
use Rattle.gx_records.specs.State.{limit_in_force}
use Rattle.gx_peaks.specs.Touching.{set_by, sets_limit}
use Rattle.gx_peaks.proofs.Limit_kept.{limit_among, limit_is_kept}

none_by_kind : (limit : ℕ) (kind : RuleKind) → limit_of kind ≡ None → limit_of (with_limit limit kind) ≡ None
none_by_kind limit (RuleKind.Listed kind stocks) h = h
none_by_kind limit (RuleKind.Plain kind) h = h
none_by_kind limit (RuleKind.Order kind before) h = cc
none_by_kind limit (RuleKind.Exposure kind before count) h = cc
none_by_kind limit (RuleKind.Rate rate count) h = h
none_by_kind limit (RuleKind.Repeat repeat count) h = h

none_by_rule : (limit : ℕ) (named : Bool) (kind : RuleKind) → limit_of kind ≡ None → limit_of (cond named (with_limit limit kind) kind) ≡ None
none_by_rule limit true kind h = none_by_kind limit kind h
none_by_rule limit false kind h = h

none_among : (named : RuleId) (limit : ℕ) (name : RuleId) (rules : List FileRule) → limit_among rules name ≡ None → limit_among (map (change_rule named (with_limit limit)) rules) name ≡ None
none_among named limit name [] h = refl
none_among named limit name (rule ∷ rules) h = by (same_rule rule.name name) h (none_among named limit name rules)
  where
    by : (b : Bool) → option_and_then (λ (r : FileRule). limit_of r.kind) (cond b (Some rule) (rule_in rules name)) ≡ None
        → (limit_among rules name ≡ None → limit_among (map (change_rule named (with_limit limit)) rules) name ≡ None)
        → option_and_then (λ (r : FileRule). limit_of r.kind) (cond b (Some (change_rule named (with_limit limit) rule)) (rule_in (map (change_rule named (with_limit limit)) rules) name)) ≡ None
    by true k later = none_by_rule limit (same_rule rule.name named) rule.kind k
    by false k later = later k

by_action : (name : RuleId) (rules : List FileRule) (action : Action) → option_map_or (λ (named : RuleId). same_rule named name) (set_by action) false ≡ true → limit_among rules name ≡ None → limit_among (rules_after rules action) name ≡ None
by_action name rules (Action.SetLimit named limit) sets h = none_among named limit name rules h
by_action name rules (Action.Restrict named stock) sets h = cc
by_action name rules (Action.Unrestrict named stock) sets h = cc
by_action name rules (Action.Kill account) sets h = cc
by_action name rules (Action.Lift account) sets h = cc
by_action name rules (Action.Grant written account) sets h = cc
by_action name rules (Action.Revoke written account) sets h = cc
by_action name rules Action.CloseDay sets h = cc

-- behind any record
pub none_stays : (policy : PolicyData) (records : List RecordData) (r : RecordData) (name : RuleId) → limit_in_force policy records name ≡ None → limit_in_force policy (records ++ r ∷ []) name ≡ None
none_stays policy records r name none = by (sets_limit r name) refl
  where
    at : (action : Option Action) → option_map_or (λ (named : RuleId). same_rule named name) (option_and_then set_by action) false ≡ true
        → limit_among (option_map_or (rules_after (rules_in_force policy records)) action (rules_in_force policy records)) name ≡ None
    at None sets = cc
    at (Some action) sets = by_action name (rules_in_force policy records) action sets none

    by : (b : Bool) → sets_limit r name ≡ b → limit_in_force policy (records ++ r ∷ []) name ≡ None
    by false e = limit_is_kept policy records r name e ∙ none
    by true e = ap (λ (rules : List FileRule). limit_among rules name) (rules_in_force_next policy records r) ∙ at (granted_action r) e
