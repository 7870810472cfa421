-- Days on the sample policy under others, worked by hand.
use Rattle.std.specs.Prelude.{◌≡◌, ℕ, List, [], ◌∷◌, codes, map, Option, Some, None}
use Rattle.gx_policy.specs.{declared.policy.PolicyData.PolicyData, Samples.{alice, bob, with_rules, sample}}
use Rattle.gx_history.specs.{declared.record.{Step.Step, Verdict.Verdict}, Verdicts.run}
use Rattle.gx_worked_examples.specs.Sample.{login, buys, sells, matches, granted, denied_by_rule, filled}
use Rattle.gx_whatif.specs.{declared.change.VerdictChange.VerdictChange, Differing.verdict_changes}

-- a change by its number, and the two verdicts
pub record ChangeRow : Type 0 where
  pub number : ℕ
  pub recorded : Verdict
  pub told : Option Verdict

abbrev pub change_row : ℕ → Verdict → Option Verdict → ChangeRow
change_row number recorded now = record { number = number; recorded = recorded; told = now }

-- what verdict_changes of the day of these steps
abbrev pub changes_of : PolicyData → PolicyData → List Step → List ChangeRow
changes_of old new steps = map (λ (c : VerdictChange). change_row c.number c.recorded c.told) (verdict_changes old new (run old steps))

-- the sample policy without a rule
abbrev pub ruleless : PolicyData
ruleless = with_rules []

-- ALICE buys for more than GROSS lets her
abbrev pub a_rule_comes_steps : List Step
a_rule_comes_steps =
    login alice
    ∷ login bob
    ∷ sells bob 2 (codes "S1") 100 10000
    ∷ matches 2
    ∷ buys alice 3 (codes "A1") 2000 10000
    ∷ matches 3
    ∷ matches 3
    ∷ []

-- a rule that comes denies her order, and its matching steps find none waiting
abbrev pub ARuleComes : Type 0
ARuleComes = changes_of ruleless sample a_rule_comes_steps
    ≡ change_row 5 granted (Some (denied_by_rule (codes "GROSS"))) ∷ change_row 6 (filled 5 3 100 10000) None ∷ change_row 7 (Verdict.Rested 5) None ∷ []

-- GROSS denies what ALICE buys, and BOB's sell finds nobody
abbrev pub a_rule_goes_steps : List Step
a_rule_goes_steps =
    login alice
    ∷ login bob
    ∷ buys alice 2 (codes "A1") 2000 10000
    ∷ sells bob 3 (codes "S1") 100 10000
    ∷ matches 3
    ∷ []

-- where the rule goes, her order comes to rest before the next step, and his is filled with it: both by their numbers in the
-- day
abbrev pub ARuleGoes : Type 0
ARuleGoes = changes_of sample ruleless a_rule_goes_steps
    ≡ change_row 3 (denied_by_rule (codes "GROSS")) (Some granted) ∷ change_row 5 (Verdict.Rested 4) (Some (filled 4 3 100 10000)) ∷ []
