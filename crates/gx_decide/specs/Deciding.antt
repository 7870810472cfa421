-- What a verdict rests on: people, rules in force, and what a ledger stands for.
use Rattle.std.specs.{Prelude.{◌≡◌, ℕ, Bool, true, List, map, Option, is_some, IsTrue}, Option.option_map_or}
use Rattle.gx_units.specs.declared.names.AccountName.{AccountName}
use Rattle.gx_desk.specs.declared.Action.{Action}
use Rattle.gx_history.specs.{declared.{facts.Facts.Facts, live_order.LiveOrder.LiveOrder, «record».{Asked.Asked, Request.Request, Verdict.Verdict}}, Asking.of_command, Figures.{Positions, figures}, Rules.first_forbidding, Verdicts.{figures_asked, verdict_by, with_figures}}
use Rattle.gx_policy.specs.{declared.policy.{FileRule.FileRule, PolicyData.PolicyData, User.User}, People.account_named}
use Rattle.gx_people.specs.Entitled.{has, power_of}
use Rattle.gx_laws.specs.Sound.{AreSound}
use Rattle.gx_ledger.specs.{Keeping.LedgerData, StandsFor.StandsFor}

-- the facts, with what these people say of the asker's power
abbrev pub with_powers : List User → Asked → Facts → Facts
with_powers people a given = record given { has_power = of_command (λ (action : Action). has people a.user (power_of action)) a.request }

-- the rules ask for the figures of the policy's, as commands change limits and lists of stocks alone
abbrev pub AskForTheSame : PolicyData → Positions → List FileRule → Type 0
AskForTheSame policy held rules = (asker : AccountName) (q : Request) (replaced : Option LiveOrder) (moment : ℕ)
    → map (figures policy held asker q replaced moment) rules ≡ map (figures policy held asker q replaced moment) policy.rules

-- the asker's account, if he has one, is the policy's
abbrev pub knows_asker : PolicyData → Facts → Bool
knows_asker policy given = option_map_or (λ (account : AccountName). is_some (account_named policy account)) given.account true

-- The verdict is that of the first rule that forbids, on these facts and the figures of the lists that the ledger stands
-- for, whichever these are.
abbrev pub Judges : List FileRule → LedgerData → Facts → Asked → Verdict → Type 0
Judges rules ledger facts a result = (policy : PolicyData) (held : Positions)
    → StandsFor policy ledger held → AreSound policy held → AskForTheSame policy held rules → IsTrue (knows_asker policy facts)
    → result ≡ verdict_by (first_forbidding (with_figures (figures_asked policy held a.request facts) rules) facts a.request)

-- so it is on the powers of these people
abbrev pub Decides : List User → List FileRule → LedgerData → Facts → Asked → Verdict → Type 0
Decides people rules ledger given a result = Judges rules ledger (with_powers people a given) a result
