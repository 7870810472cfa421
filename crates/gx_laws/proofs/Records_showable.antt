-- The audit can show what an askable step leaves under a sound policy.
use Rattle.gx_policy.specs.{Kinds.{with_limit, with_stocks}, declared.{rule_name.RuleName.{RuleName, TheVariants.{L1, L2, L3, G1, G2, G3, File}}, policy.{PolicyData.PolicyData, FileRule.FileRule, RuleKind.RuleKind}}, RuleNames.{rules_before, rules_behind, is_built_in}, Soundness.{is_sound, is_rule_sound, is_name_letter, is_padded, is_kind_sound, is_scope}}
use Rattle.std.proofs.{Common.{◌≡◌, ℕ, ◌+◌, Bool, true, false, List, [], ◌∷◌, ◌++◌, refl, ◌∙◌, ap, sym, map, cond, length, arith}, lemmas.{List.Folds.list_all-append, Bool.{lt-ltb, and_parts, and_from}, Option.same_Some}}
use Rattle.std.specs.{Prelude.{Option, Some, None, ◌&&◌, not, nat_lt, find, fold, drop, option_map}, List.{list_all, list_any}}
use Rattle.gx_units.specs.{declared.names.RuleId.RuleId, Spelling.is_blank}
use Rattle.gx_units.proofs.Lists_hold.{all_imply}
use Rattle.gx_desk.specs.declared.Action.{Action}
use Rattle.gx_history.specs.{declared.{«record».{Asked.Asked, RecordData.RecordData, Request.Request, Step.Step, Verdict.Verdict}, facts.{Facts.Facts, RuleFigures.RuleFigures}}, InForce.{rules_in_force, rules_after, change_rule, with_stock, without_stock}, Requests.{granted_actions, is_unreadable}, Rules.{Rule, BuiltIn, OfFile, name_of, applies, first_forbidding, written_order}, Showing.{is_askable, is_showable, is_rule_shown, answers}, Figures.positions, Verdicts.{facts_now, rules_now, next, step_verdict, verdict, verdict_by, with_figures, figures_asked}}
use Rattle.gx_laws.proofs.Rules_first.{none_forbids, none_among}

found_at : {X : Type 0} (p q : X → Bool) (y : X) (xs : List X) (x : X) → (list_all p xs ≡ true → find q xs ≡ Some x → p x ≡ true)
    → (b : Bool) → (p y ≡ true) × (list_all p xs ≡ true) → cond b (Some y) (find q xs) ≡ Some x → p x ≡ true
found_at p q y xs x deeper true parts e = ap p (sym (same_Some _ _ e)) ∙ parts.0
found_at p q y xs x deeper false parts e = deeper parts.1 e

-- what was found passes what all pass
found_passes : {X : Type 0} (p q : X → Bool) (xs : List X) (x : X) → list_all p xs ≡ true → find q xs ≡ Some x → p x ≡ true
found_passes p q [] x h e = cc
found_passes p q (y ∷ xs) x h e = found_at p q y xs x (found_passes p q xs x) (q y) (and_parts (p y) (list_all p xs) h) e

abbrev shown : FileRule → Bool
shown r = is_rule_shown (File r.name)

shown_mapped : (name : RuleId) (change : RuleKind → RuleKind) (rules : List FileRule) → list_all shown (map (change_rule name change) rules) ≡ list_all shown rules
shown_mapped name change [] = refl
shown_mapped name change (r ∷ rules) = ap (λ b. shown r && b) (shown_mapped name change rules)

shown_changed : (rules : List FileRule) (action : Action) → list_all shown (rules_after rules action) ≡ list_all shown rules
shown_changed rules (Action.SetLimit name limit) = shown_mapped name (with_limit limit) rules
shown_changed rules (Action.Restrict name stock) = shown_mapped name (with_stocks (with_stock stock)) rules
shown_changed rules (Action.Unrestrict name stock) = shown_mapped name (with_stocks (without_stock stock)) rules
shown_changed rules (Action.Kill account) = refl
shown_changed rules (Action.Lift account) = refl
shown_changed rules (Action.Grant reader account) = refl
shown_changed rules (Action.Revoke reader account) = refl
shown_changed rules Action.CloseDay = refl

shown_after : (rules : List FileRule) (made : List Action) → list_all shown (fold rules_after rules made) ≡ list_all shown rules
shown_after rules [] = refl
shown_after rules (action ∷ made) = shown_after (rules_after rules action) made ∙ shown_changed rules action

shown_in_force : (policy : PolicyData) (history : List RecordData) → list_all shown (rules_in_force policy history) ≡ list_all shown policy.rules
unfolding rules_in_force
shown_in_force policy history = shown_after policy.rules (granted_actions history)

shown_parts : (blank padded built kind scope : Bool) → ((not blank && padded) && not built && kind && scope) ≡ true → (not built && not blank) ≡ true
shown_parts true padded built kind scope h = cc
shown_parts false padded false kind scope h = refl
shown_parts false true true kind scope h = cc
shown_parts false false true kind scope h = cc

rule_shown : (policy : PolicyData) (r : FileRule) → is_rule_sound policy r ≡ true → shown r ≡ true
rule_shown policy r h =
    shown_parts (is_blank r.name.bytes) (is_padded is_name_letter r.name.bytes) (is_built_in r.name) (is_kind_sound policy r.kind) (is_scope policy r.scope) h

some_more : (n : ℕ) → nat_lt 0 (n + 1) ≡ true
some_more n = lt-ltb 0 (n + 1) (omega arith)

-- the names of a sound policy's rules can be shown
shown_where_sound : (policy : PolicyData) → is_sound policy ≡ true → list_all shown policy.rules ≡ true
unfolding is_sound
shown_where_sound policy h =
    all_imply (is_rule_sound policy) shown policy.rules (λ r k. rule_shown policy r k) (and_parts _ _ h).1

in_written : (asks : FileRule → RuleFigures) (rules : List FileRule) → list_all (λ (r : Rule). is_rule_shown (name_of r)) (map OfFile (with_figures asks rules)) ≡ list_all shown rules
in_written asks [] = refl
in_written asks (r ∷ rules) = ap (λ b. shown r && b) (in_written asks rules)

written_shown : (asks : FileRule → RuleFigures) (rules : List FileRule) → list_all shown rules ≡ true
    → list_all (λ (r : Rule). is_rule_shown (name_of r)) (written_order (with_figures asks rules)) ≡ true
unfolding written_order rules_before rules_behind
written_shown asks rules h =
    let p : Rule → Bool = λ (r : Rule). is_rule_shown (name_of r) in
    list_all-append p (map BuiltIn rules_before ++ map OfFile (with_figures asks rules)) (map BuiltIn rules_behind)
    ∙ ap (λ b. b && true) (list_all-append p (map BuiltIn rules_before) (map OfFile (with_figures asks rules)) ∙ in_written asks rules ∙ h)

granted_shown : (q : Request) → is_unreadable q ≡ false → answers q Verdict.Granted ≡ true
granted_shown (Request.Login m) h = refl
granted_shown Request.Logout h = refl
granted_shown (Request.Unreadable m) h = cc
granted_shown (Request.Enter m) h = refl
granted_shown (Request.Replace m) h = refl
granted_shown (Request.Cancel m) h = refl
granted_shown (Request.Command c) h = refl

denied_shown : (q : Request) (name : RuleName) → is_rule_shown name ≡ true → answers q (Verdict.Denied name) ≡ true
denied_shown (Request.Login m) name h = h
denied_shown Request.Logout name h = h
denied_shown (Request.Unreadable m) name h = h
denied_shown (Request.Enter m) name h = h
denied_shown (Request.Replace m) name h = h
denied_shown (Request.Cancel m) name h = h
denied_shown (Request.Command c) name h = h

readable : (rules : List (FileRule × RuleFigures)) (given : Facts) (q : Request) → list_any (applies given q) (written_order rules) ≡ false → is_unreadable q ≡ false
unfolding written_order rules_before
readable rules given q h =
    none_among (applies given q) (BuiltIn L1 ∷ BuiltIn L2 ∷ BuiltIn L3 ∷ BuiltIn G1 ∷ BuiltIn G2 ∷ []) (BuiltIn G3)
    ((map BuiltIn (drop 6 rules_before) ++ map OfFile rules) ++ map BuiltIn rules_behind) h

found_shown : (p q : Rule → Bool) (rules : List Rule) (found : Option Rule) (name : RuleName) → find q rules ≡ found → option_map name_of found ≡ Some name
    → list_all (λ (r : Rule). is_rule_shown (name_of r)) rules ≡ true → is_rule_shown name ≡ true
found_shown p q rules None name e k h = cc
found_shown p q rules (Some rule) name e k h =
    ap is_rule_shown (sym (same_Some _ _ k)) ∙ found_passes (λ (r : Rule). is_rule_shown (name_of r)) q rules rule h e

verdict_shown : (rules : List (FileRule × RuleFigures)) (given : Facts) (q : Request) (found : Option RuleName) → first_forbidding rules given q ≡ found
    → list_all (λ (r : Rule). is_rule_shown (name_of r)) (written_order rules) ≡ true → answers q (verdict_by found) ≡ true
unfolding first_forbidding
verdict_shown rules given q None e h = granted_shown q (readable rules given q (none_forbids rules given q e))
verdict_shown rules given q (Some name) e h =
    denied_shown q name (found_shown (applies given q) (applies given q) (written_order rules) (find (applies given q) (written_order rules)) name refl e h)

-- the verdict is one that the audit can show
pub verdict_is_shown : (policy : PolicyData) (history : List RecordData) (a : Asked) → is_sound policy ≡ true → answers a.request (verdict policy history a) ≡ true
unfolding verdict
verdict_is_shown policy history a sound =
    let given : Facts = facts_now policy history a in
    let asks : FileRule → RuleFigures = figures_asked policy (positions policy history) a.request given in
    verdict_shown (rules_now policy history a) given a.request _ refl
    (written_shown asks (rules_in_force policy history) (shown_in_force policy history ∙ shown_where_sound policy sound))

pub next_is_showable : (policy : PolicyData) (history : List RecordData) (a : Asked) (r : RecordData)
    → is_sound policy ≡ true → is_askable a ≡ true → next policy history (Step.Asked a) ≡ Some r → is_showable r ≡ true
unfolding next step_verdict
next_is_showable policy history a r sound askable e =
    ap is_showable (sym (same_Some _ _ e))
    ∙ and_from (nat_lt 0 (length history + 1)) (is_askable a && answers a.request (verdict policy history a)) (some_more (length history))
    (and_from (is_askable a) (answers a.request (verdict policy history a)) askable
    (verdict_is_shown policy history a sound))
