-- What a step answers for: its record and its verdict.
use Rattle.std.specs.Prelude.{◌≡◌, ◌≤◌, Bool, ◌++◌, ◌∷◌, [], length, List, Option, None, ◌↔◌}
use Rattle.gx_history.specs.{declared.«record».{Asked.Asked, RecordData.RecordData, Step.Step, Verdict.Verdict}, Rules.{first_forbidding, IsFirstForbidding}, Verdicts.{day_limit, facts_now, next, rules_now, verdict}, Reserved.is_never_refused}
use Rattle.gx_policy.specs.declared.rule_name.RuleName.{RuleName}
use Rattle.gx_access_gate.specs.{declared.outcome.Outcome.Outcome, Gates.{GateData, left_by}}

-- the records with that of a request last
abbrev pub with_record : GateData → Asked → Outcome → List RecordData
with_record gate a o = gate.records ++ left_by a o ∷ []

-- the day has as many records as it may have
abbrev pub IsFull : GateData → Type 0
IsFull gate = day_limit ≤ length gate.records

-- the verdict on the request
abbrev pub verdict_of : GateData → Asked → Verdict
verdict_of gate a = verdict gate.policy gate.records a

-- a granted Kill or Logout: it is never refused, the day full or not
abbrev pub never_refuses : GateData → Asked → Bool
never_refuses gate a = is_never_refused a.request (verdict_of gate a)

-- the record that the request leaves
abbrev pub next_of : GateData → Asked → Option RecordData
next_of gate a = next gate.policy gate.records (Step.Asked a)

-- the first rule that forbids the request, on all earlier records
abbrev pub first_forbidding_rule : GateData → Asked → Option RuleName
first_forbidding_rule gate a = first_forbidding (rules_now gate.policy gate.records a) (facts_now gate.policy gate.records a) a.request

-- granted exactly where no rule forbids the request, else denied by the first of the written order that does
pub record IsJudged (gate : GateData) (a : Asked) (given : Verdict) : Type 0 where
  pub granted : given ≡ Verdict.Granted ↔ first_forbidding_rule gate a ≡ None
  pub denied : (name : RuleName) → given ≡ Verdict.Denied name
      → IsFirstForbidding (rules_now gate.policy gate.records a) (facts_now gate.policy gate.records a) a.request name
