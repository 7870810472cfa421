-- Runs on the sample policy with commands of officers.
use Rattle.std.specs.Prelude.{◌≡◌, List, [], ◌∷◌, codes}
use Rattle.gx_desk.specs.declared.Action.{Action}
use Rattle.gx_policy.specs.{declared.rule_name.RuleName.RuleName, Samples.{alfa, beta, alice, bob, olga, otto, rita, test_stock, sample}}
use Rattle.gx_history.specs.{declared.record.{Step.Step, Verdict.Verdict}, Verdicts.run}
use Rattle.gx_worked_examples.specs.Sample.{written_rita, rule, login, logs_out, buys, sells, commands, matches, verdicts_of, granted, denied, denied_by_rule, filled}

-- a killed account's sweep ends between two fills
abbrev pub a_kill_ends_a_sweep_steps : List Step
a_kill_ends_a_sweep_steps =
    login alice
    ∷ login bob
    ∷ login olga
    ∷ sells bob 2 (codes "S1") 100 10000
    ∷ sells bob 2 (codes "S2") 100 10000
    ∷ sells bob 2 (codes "S3") 100 10000
    ∷ matches 3
    ∷ matches 3
    ∷ matches 3
    ∷ matches 3
    ∷ buys alice 4 (codes "A1") 300 10000
    ∷ matches 5
    ∷ commands olga 6 (codes "K1") (Action.Kill alfa)
    ∷ matches 7
    ∷ []

-- what comes of these steps
abbrev pub AKillEndsASweep : Type 0
AKillEndsASweep = verdicts_of (run sample a_kill_ends_a_sweep_steps)
    ≡ granted ∷ granted ∷ granted ∷ granted ∷ granted ∷ granted ∷ Verdict.Rested 4 ∷ Verdict.Rested 5 ∷
    Verdict.Rested 6 ∷ granted ∷ filled 10 4 100 10000 ∷ granted ∷ []

-- a killed account trades again only after a lift by an officer with the power
abbrev pub a_lift_lets_trade_again_steps : List Step
a_lift_lets_trade_again_steps =
    login alice
    ∷ login bob
    ∷ login olga
    ∷ sells bob 2 (codes "S1") 100 10000
    ∷ sells bob 2 (codes "S2") 100 10000
    ∷ sells bob 2 (codes "S3") 100 10000
    ∷ matches 3
    ∷ matches 3
    ∷ matches 3
    ∷ matches 3
    ∷ buys alice 4 (codes "A1") 300 10000
    ∷ matches 5
    ∷ commands olga 6 (codes "K1") (Action.Kill alfa)
    ∷ matches 7
    ∷ buys alice 8 (codes "A2") 1 10000
    ∷ login otto
    ∷ commands otto 8 (codes "K2") (Action.Lift alfa)
    ∷ commands olga 8 (codes "K3") (Action.Lift alfa)
    ∷ buys alice 9 (codes "A2") 1 10000
    ∷ buys alice 9 (codes "A3") 1 10000
    ∷ matches 9
    ∷ matches 9
    ∷ []

-- what comes of these steps
abbrev pub ALiftLetsTradeAgain : Type 0
ALiftLetsTradeAgain = verdicts_of (run sample a_lift_lets_trade_again_steps)
    ≡ granted ∷ granted ∷ granted ∷ granted ∷ granted ∷ granted ∷ Verdict.Rested 4 ∷ Verdict.Rested 5 ∷
    Verdict.Rested 6 ∷ granted ∷ filled 10 4 100 10000 ∷ granted ∷ denied RuleName.P2 ∷ granted ∷ denied RuleName.Q2 ∷
    granted ∷ denied RuleName.I1 ∷ granted ∷ filled 18 5 1 10000 ∷ []

-- a limit that an officer sets is in force from then on
abbrev pub a_set_limit_is_in_force_steps : List Step
a_set_limit_is_in_force_steps =
    login alice
    ∷ login olga
    ∷ commands olga 2 (codes "T1") (Action.SetLimit (rule (codes "SIZE")) 10)
    ∷ buys alice 2 (codes "A1") 11 10
    ∷ commands olga 2 (codes "T2") (Action.Restrict (rule (codes "SIZE")) test_stock)
    ∷ commands olga 2 (codes "T3") (Action.SetLimit (rule (codes "SIZE")) 500000)
    ∷ buys alice 2 (codes "A2") 11 10
    ∷ []

-- what comes of these steps
abbrev pub ASetLimitIsInForce : Type 0
ASetLimitIsInForce = verdicts_of (run sample a_set_limit_is_in_force_steps)
    ≡ granted ∷ granted ∷ granted ∷ denied_by_rule (codes "SIZE") ∷ denied RuleName.Q1 ∷ granted ∷ granted ∷ []

-- commands that name nothing or change nothing, and the end of the day
abbrev pub useless_commands_are_denied_steps : List Step
useless_commands_are_denied_steps =
    login alice
    ∷ login olga
    ∷ commands olga 2 (codes "C1") (Action.Kill (record { bytes = codes "GAMMA   " }))
    ∷ commands olga 2 (codes "C2") (Action.Kill alfa)
    ∷ commands olga 2 (codes "C3") (Action.Kill alfa)
    ∷ commands olga 2 (codes "C4") (Action.SetLimit (rule (codes "SIZE")) 500000)
    ∷ commands olga 2 (codes "C5") (Action.CloseDay)
    ∷ logs_out alice 3
    ∷ login alice
    ∷ buys alice 3 (codes "A1") 1 10
    ∷ []

-- what comes of these steps
abbrev pub UselessCommandsAreDenied : Type 0
UselessCommandsAreDenied = verdicts_of (run sample useless_commands_are_denied_steps)
    ≡ granted ∷ granted ∷ denied RuleName.Q1 ∷ granted ∷ denied RuleName.Q4 ∷ denied RuleName.Q4 ∷ granted ∷ granted ∷
    granted ∷ denied RuleName.P1 ∷ []

-- a reader is the same in either case of letters
abbrev pub names_are_written_in_either_case_steps : List Step
names_are_written_in_either_case_steps =
    login olga
    ∷ commands olga 2 (codes "G1") (Action.Grant written_rita alfa)
    ∷ commands olga 2 (codes "G2") (Action.Grant written_rita alfa)
    ∷ commands olga 2 (codes "G3") (Action.Revoke written_rita alfa)
    ∷ commands olga 2 (codes "G4") (Action.Revoke written_rita alfa)
    ∷ []

-- what comes of these steps
abbrev pub NamesAreWrittenInEitherCase : Type 0
NamesAreWrittenInEitherCase = verdicts_of (run sample names_are_written_in_either_case_steps)
    ≡ granted ∷ granted ∷ denied RuleName.Q4 ∷ granted ∷ denied RuleName.Q4 ∷ []

-- grants and revokes between fills
abbrev pub readers_come_and_go_steps : List Step
readers_come_and_go_steps =
    login alice
    ∷ login bob
    ∷ login olga
    ∷ login rita
    ∷ commands olga 2 (codes "G1") (Action.Grant written_rita alfa)
    ∷ sells bob 3 (codes "S1") 1 10000
    ∷ buys alice 3 (codes "A1") 1 10000
    ∷ matches 4
    ∷ matches 4
    ∷ matches 4
    ∷ commands olga 5 (codes "G2") (Action.Revoke written_rita alfa)
    ∷ sells bob 5 (codes "S2") 1 10000
    ∷ buys alice 5 (codes "A2") 1 10000
    ∷ matches 5
    ∷ matches 5
    ∷ matches 5
    ∷ commands olga 5 (codes "G3") (Action.Grant written_rita alfa)
    ∷ commands olga 5 (codes "G4") (Action.Grant written_rita beta)
    ∷ sells bob 5 (codes "S3") 1 10000
    ∷ buys alice 5 (codes "A3") 1 10000
    ∷ matches 5
    ∷ matches 5
    ∷ matches 5
    ∷ []

-- what comes of these steps
abbrev pub ReadersComeAndGo : Type 0
ReadersComeAndGo = verdicts_of (run sample readers_come_and_go_steps)
    ≡ granted ∷ granted ∷ granted ∷ granted ∷ granted ∷ granted ∷ granted ∷ Verdict.Rested 6 ∷ filled 7 6 1 10000 ∷
    granted ∷ granted ∷ granted ∷ Verdict.Rested 11 ∷ filled 12 11 1 10000 ∷ granted ∷ granted ∷ granted ∷
    granted ∷ Verdict.Rested 17 ∷ filled 18 17 1 10000 ∷ []

-- a kill between orders ends what is open and denies what follows, until the lift
abbrev pub a_kill_stands_until_the_lift_steps : List Step
a_kill_stands_until_the_lift_steps =
    login alice
    ∷ login olga
    ∷ buys alice 2 (codes "A1") 100 10000
    ∷ commands olga 3 (codes "K1") (Action.Kill alfa)
    ∷ buys alice 4 (codes "A2") 1 10000
    ∷ commands olga 5 (codes "K2") (Action.Lift alfa)
    ∷ buys alice 6 (codes "A3") 1 10000
    ∷ []

-- what comes of these steps
abbrev pub AKillStandsUntilTheLift : Type 0
AKillStandsUntilTheLift = verdicts_of (run sample a_kill_stands_until_the_lift_steps)
    ≡ granted ∷ granted ∷ granted ∷ granted ∷ denied RuleName.P2 ∷ granted ∷ granted ∷ []
