-- The written order in its three parts.
use Rattle.std.proofs.{Common.{◌≡◌, ℕ, suc, ◌+◌, arith, sym, List, [], ◌∷◌, ◌++◌, refl, ◌∙◌, ap, map, cond, Bool, true, false}, lemmas.List.Folds.find-append}
use Rattle.std.specs.{Prelude.{Option, Some, None, option_map, find}, Option.option_or}
use Rattle.gx_history.specs.{declared.{«record».Request.Request, facts.{Facts.Facts, RuleFigures.RuleFigures}}, Rules.{BuiltIn, OfFile, name_of, applies, figured_from, first_forbidding, first_file_rule, forbids, rule_forbids, written_order}}
use Rattle.gx_policy.specs.{declared.{rule_name.RuleName.{RuleName, TheVariants.File}, policy.FileRule.FileRule}, RuleNames.{rules_before, rules_behind}}
use Rattle.gx_units.specs.declared.names.RuleId.{RuleId}
use Rattle.gx_rules.specs.{declared.book_rule.BookRule.BookRule, Books.{rule_named, rules_of_entries}}

map_or : {X Y : Type 0} (f : X → Y) (a b : Option X) → option_map f (option_or a b) ≡ option_or (option_map f a) (option_map f b)
map_or f None b = refl
map_or f (Some x) b = refl

built_in : (names : List RuleName) (given : Facts) (q : Request) → option_map name_of (find (applies given q) (map BuiltIn names)) ≡ find (λ name. forbids name given q) names
built_in [] given q = refl
built_in (n ∷ names) given q =
    elim (forbids n given q) as (λ b. option_map name_of (cond b (Some (BuiltIn n)) (find (applies given q) (map BuiltIn names))) ≡ cond b (Some n) (find (λ name. forbids name given q) names))
    [ true ↦ refl | false ↦ built_in names given q ]

of_file : (rules : List (FileRule × RuleFigures)) (given : Facts) (q : Request) → option_map name_of (find (applies given q) (map OfFile rules)) ≡ first_file_rule rules given q
of_file [] given q = refl
of_file (r ∷ rules) given q =
    elim (rule_forbids given q r.0 r.1) as (λ b. option_map name_of (cond b (Some (OfFile r)) (find (applies given q) (map OfFile rules)))
    ≡ option_map (λ (r : FileRule × RuleFigures). File r.0.name) (cond b (Some r) (find (λ (r : FileRule × RuleFigures). rule_forbids given q r.0 r.1) rules)))
    [ true ↦ refl | false ↦ of_file rules given q ]

-- first the built-in rules, then the file's, then those for officers
pub first_in_parts : (rules : List (FileRule × RuleFigures)) (given : Facts) (q : Request) → first_forbidding rules given q
    ≡ option_or (option_or (find (λ name. forbids name given q) rules_before) (first_file_rule rules given q)) (find (λ name. forbids name given q) rules_behind)
unfolding first_forbidding written_order
first_in_parts rules given q =
    ap (option_map name_of) (find-append (applies given q) (map BuiltIn rules_before ++ map OfFile rules) (map BuiltIn rules_behind)
    ∙ ap (λ o. option_or o (find (applies given q) (map BuiltIn rules_behind))) (find-append (applies given q) (map BuiltIn rules_before) (map OfFile rules)))
    ∙ map_or name_of (option_or (find (applies given q) (map BuiltIn rules_before)) (find (applies given q) (map OfFile rules))) (find (applies given q) (map BuiltIn rules_behind))
    ∙ ap (λ o. option_or o (option_map name_of (find (applies given q) (map BuiltIn rules_behind)))) (map_or name_of (find (applies given q) (map BuiltIn rules_before)) (find (applies given q) (map OfFile rules)))
    ∙ ap (λ o. option_or (option_or o (option_map name_of (find (applies given q) (map OfFile rules)))) (option_map name_of (find (applies given q) (map BuiltIn rules_behind)))) (built_in rules_before given q)
    ∙ ap (λ o. option_or (option_or (find (λ name. forbids name given q) rules_before) o) (option_map name_of (find (applies given q) (map BuiltIn rules_behind)))) (of_file rules given q)
    ∙ ap (λ o. option_or (option_or (find (λ name. forbids name given q) rules_before) (first_file_rule rules given q)) o) (built_in rules_behind given q)

-- the next rule of the file forbids, or those behind it are asked
pub next_asked : (told : ℕ → RuleFigures) (place : ℕ) (name : RuleId) (rule : BookRule) (left entries : List (RuleId × BookRule)) (given : Facts) (q : Request)
    → entries ≡ (name, rule) ∷ left
    → first_file_rule (figured_from told place (rules_of_entries entries)) given q
    ≡ cond (rule_forbids given q (rule_named name rule) (told place)) (Some (File name)) (first_file_rule (figured_from told (place + 1) (rules_of_entries left)) given q)
next_asked told place name rule left entries given q is =
    ap (λ (es : List (RuleId × BookRule)). first_file_rule (figured_from told place (rules_of_entries es)) given q) is
    ∙ at (rule_forbids given q (rule_named name rule) (told place))
    ∙ ap (λ n. cond (rule_forbids given q (rule_named name rule) (told place)) (Some (File name)) (first_file_rule (figured_from told n (rules_of_entries left)) given q)) (one_more place)
  where
    one_more : (n : ℕ) → suc n ≡ n + 1
    one_more n = grind arith

    at : (b : Bool) → option_map (λ (r : FileRule × RuleFigures). File r.0.name)
        (cond b (Some (rule_named name rule, told place)) (find (λ (r : FileRule × RuleFigures). rule_forbids given q r.0 r.1) (figured_from told (suc place) (rules_of_entries left))))
        ≡ cond b (Some (File name)) (first_file_rule (figured_from told (suc place) (rules_of_entries left)) given q)
    at true = refl
    at false = refl

module _ (told : ℕ → RuleFigures) (place : ℕ) (name : RuleId) (rule : BookRule) (left entries : List (RuleId × BookRule)) (given : Facts) (q : Request)
    (is : entries ≡ (name, rule) ∷ left) (figures : RuleFigures) (are : figures ≡ told place) (b : Bool) (asked : b ≡ rule_forbids given q (rule_named name rule) figures) where
  abbrev rest : Option RuleName
  rest = first_file_rule (figured_from told (place + 1) (rules_of_entries left)) given q

  by_it : first_file_rule (figured_from told place (rules_of_entries entries)) given q ≡ cond b (Some (File name)) rest
  by_it = next_asked told place name rule left entries given q is
      ∙ ap (λ f. cond (rule_forbids given q (rule_named name rule) f) (Some (File name)) rest) (sym are)
      ∙ ap (λ a. cond a (Some (File name)) rest) (sym asked)

  -- it forbids
  pub stops_here : b ≡ true → Some (File name) ≡ first_file_rule (figured_from told place (rules_of_entries entries)) given q
  stops_here forbids = sym (by_it ∙ ap (λ a. cond a (Some (File name)) rest) forbids)

  -- it does not
  pub goes_on : b ≡ false → (found : Option RuleName) → found ≡ rest → found ≡ first_file_rule (figured_from told place (rules_of_entries entries)) given q
  goes_on forbids found is_rest = is_rest ∙ sym (by_it ∙ ap (λ a. cond a (Some (File name)) rest) forbids)
