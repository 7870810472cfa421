-- What a policy's soundness says of its rules.
use Rattle.gx_policy.specs.{Kinds.stocks_of, declared.policy.{FileRule.FileRule, PolicyData.PolicyData, RuleKind.RuleKind}, Lists.are_distinct, Soundness.{is_kind_sound, is_rule_sound, is_sound, rules_differ}}
use Rattle.std.proofs.{Common.{◌≡◌, ℕ, ◌≤◌, true, List, length, refl, ap, ◌∙◌, arith}, lemmas.{Bool.{Decides.nat_tests, and_parts}, List.length-map}}
use Rattle.std.specs.{Prelude.nat_le, List.list_all, Option.option_map_or}
use Rattle.gx_units.specs.{Names.same_stock, declared.names.RuleId.RuleId}
use Rattle.gx_units.proofs.Lists_hold.{all_imply}
use Rattle.gx_rules.specs.{declared.book_rule.BookRule.BookRule, Books.{lists_once, rule_named, rules_of_entries}}

kind_once : (policy : PolicyData) (kind : RuleKind) → is_kind_sound policy kind ≡ true → option_map_or (are_distinct same_stock) (stocks_of kind) true ≡ true
kind_once policy (RuleKind.Listed kind stocks) h = (and_parts _ _ h).1
kind_once policy (RuleKind.Plain kind) h = refl
kind_once policy (RuleKind.Order kind limit) h = refl
kind_once policy (RuleKind.Exposure kind limit count) h = refl
kind_once policy (RuleKind.Rate rate count) h = refl
kind_once policy (RuleKind.Repeat repeat count) h = refl

rule_once : (policy : PolicyData) (rule : FileRule) → is_rule_sound policy rule ≡ true → lists_once rule ≡ true
rule_once policy rule h = kind_once policy rule.kind (and_parts _ _ (and_parts _ _ h).0).1

few_rules : (policy : PolicyData) → is_sound policy ≡ true → length policy.rules ≤ 128
unfolding is_sound
few_rules policy h =
    let within = (and_parts _ _ (and_parts _ _ (and_parts _ _ (and_parts _ _ (and_parts _ _ (and_parts _ _ h).0).0).0).0).0).0 in
    few (length policy.rules) (and_parts _ _ within).1
  where
    few : (n : ℕ) → nat_le n 128 ≡ true → n ≤ 128
    few n h = grind (arith, nat_tests)

-- a book of the policy's rules has as many entries
pub few_entries : (policy : PolicyData) (rules : List FileRule) (es : List (RuleId × BookRule)) → is_sound policy ≡ true → rules ≡ policy.rules → rules_of_entries es ≡ rules → length es ≤ 128
few_entries policy rules es sound same of =
    let few = few_rules policy sound in
    let many : length (rules_of_entries es) ≡ length es = length-map es (λ e. rule_named e.0 e.1) in
    let alike : length (rules_of_entries es) ≡ length policy.rules = ap length (of ∙ same) in
    omega (arith, few, many, alike)

-- no list of the policy has a stock twice
pub sound_lists : (policy : PolicyData) → is_sound policy ≡ true → list_all lists_once policy.rules ≡ true
unfolding is_sound
sound_lists policy h = all_imply (is_rule_sound policy) lists_once policy.rules (rule_once policy) (and_parts _ _ h).1

-- no two rules of the policy have one name
pub sound_names : (policy : PolicyData) → is_sound policy ≡ true → rules_differ policy.rules ≡ true
unfolding is_sound
sound_names policy h =
    let of_names = (and_parts _ _ (and_parts _ _ (and_parts _ _ (and_parts _ _ (and_parts _ _ (and_parts _ _ h).0).0).0).0).0).1 in
    (and_parts _ _ of_names).1
