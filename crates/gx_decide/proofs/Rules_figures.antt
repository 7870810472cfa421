-- Each rule with its figures, as they are told of its place.
use Rattle.std.proofs.Common.{◌≡◌, ℕ, suc, true, List, [], ◌∷◌, map, refl, sym, ap, ◌∙◌}
use Rattle.std.specs.{Prelude.{Option, Some, None, is_some}, Option.option_map_or}
use Rattle.gx_units.specs.declared.names.AccountName.{AccountName}
use Rattle.gx_history.specs.{declared.{facts.{Facts.Facts, RuleFigures.RuleFigures}, «record».Request.Request}, Figures.{Positions, figures, no_figures}, Rules.{rules_with_figures, figured_from}, Verdicts.{figures_asked, with_figures}}
use Rattle.gx_policy.specs.{declared.policy.{FileRule.FileRule, PolicyData.PolicyData}, People.account_named}
use Rattle.gx_decide.specs.Deciding.{AskForTheSame, knows_asker}

abbrev first_figures : List (FileRule × RuleFigures) → RuleFigures
first_figures [] = no_figures
first_figures (r ∷ rules) = r.1

abbrev others : List (FileRule × RuleFigures) → List (FileRule × RuleFigures)
others [] = []
others (r ∷ rules) = rules

-- the rules in force, each with the figures of the policy's rule at its place
joined : (told : ℕ → RuleFigures) (f : FileRule → RuleFigures) (place : ℕ) (rules files : List FileRule) → figured_from told place files ≡ with_figures f files → map f rules ≡ map f files
    → figured_from told place rules ≡ with_figures f rules
joined told f place [] files are same = refl
joined told f place (rule ∷ rules) [] are same = cc
joined told f place (rule ∷ rules) (file ∷ files) are same =
    let of_file : told place ≡ f file = ap first_figures are in
    let of_rule : f rule ≡ f file = cc in
    let left : figured_from told (suc place) files ≡ with_figures f files = ap others are in
    let left_same : map f rules ≡ map f files = cc in
    ap (λ (x : RuleFigures). (rule, x) ∷ figured_from told (suc place) rules) (of_file ∙ sym of_rule)
    ∙ ap (λ (rs : List (FileRule × RuleFigures)). (rule, f rule) ∷ rs) (joined told f (suc place) rules files left left_same)

-- no figures of any rule
none_told : (place : ℕ) (rules : List FileRule) → figured_from (λ n. no_figures) place rules ≡ with_figures (λ rule. no_figures) rules
none_told place [] = refl
none_told place (rule ∷ rules) = ap (λ (rs : List (FileRule × RuleFigures)). (rule, no_figures) ∷ rs) (none_told (suc place) rules)

module _ (policy : PolicyData) (held : Positions) (q : Request) (given : Facts) (rules : List FileRule) where
  -- an asker without an account has no figures
  pub none_asked : given.account ≡ None → rules_with_figures (λ n. no_figures) rules ≡ with_figures (figures_asked policy held q given) rules
  none_asked none =
      none_told 0 rules
      ∙ ap (λ (asker : Option AccountName). with_figures (λ rule. option_map_or (λ (account : AccountName). figures policy held account q given.target_order given.moment rule) asker no_figures) rules) (sym none)

  -- the figures of the asker's account
  pub some_asked : (account : AccountName) (told : ℕ → RuleFigures) → given.account ≡ Some account
      → rules_with_figures told policy.rules ≡ with_figures (figures policy held account q given.target_order given.moment) policy.rules → AskForTheSame policy held rules
      → rules_with_figures told rules ≡ with_figures (figures_asked policy held q given) rules
  some_asked account told is_his are same =
      joined told (figures policy held account q given.target_order given.moment) 0 rules policy.rules are
      (same account q given.target_order given.moment)
      ∙ (λ i. with_figures (λ rule. option_map_or (λ (asker : AccountName). figures policy held asker q given.target_order given.moment rule) (sym is_his i) no_figures) rules)

-- the asker's account is known
pub asker_known : (policy : PolicyData) (given : Facts) (account : AccountName) → given.account ≡ Some account → knows_asker policy given ≡ true → is_some (account_named policy account) ≡ true
asker_known policy given account is_his known =
    ap (λ (o : Option AccountName). option_map_or (λ (a : AccountName). is_some (account_named policy a)) o true) (sym is_his) ∙ known
