-- The verdict that was decided is that of the day.
use Rattle.std.specs.Prelude.{◌≡◌, List, IsTrue}
use Rattle.gx_history.specs.{declared.{facts.Facts.Facts, «record».{Asked.Asked, RecordData.RecordData, Verdict.Verdict}}, Figures.positions, InForce.rules_in_force, Verdicts.{facts_now, verdict, IsLegal}}
use Rattle.gx_policy.specs.{declared.policy.{FileRule.FileRule, PolicyData.PolicyData, User.User}, Soundness.is_sound}
use Rattle.gx_people.specs.Entitled.{people_in_force}
use Rattle.gx_ledger.specs.{Keeping.LedgerData, StandsFor.StandsFor}
use Rattle.gx_decide.specs.Deciding.{Decides}

-- After a legal day under a sound policy, on its facts, with the people and the rules in force and a ledger that stands for
-- its live orders, fills and grants, the verdict that was decided is the one that the records give.
abbrev pub DecidesTheVerdict : Type 0
DecidesTheVerdict = (policy : PolicyData) (history : List RecordData) (people : List User) (rules : List FileRule) (ledger : LedgerData) (given : Facts) (a : Asked) (result : Verdict)
    → IsTrue (is_sound policy) → IsLegal policy history → people ≡ people_in_force policy history → rules ≡ rules_in_force policy history → given ≡ facts_now policy history a
    → StandsFor policy ledger (positions policy history) → Decides people rules ledger given a result → result ≡ verdict policy history a
