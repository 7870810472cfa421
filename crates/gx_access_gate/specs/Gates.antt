-- What a gate is, and what it answers.
use Rattle.std.specs.Prelude.{ℕ, List}
use Rattle.gx_policy.specs.declared.policy.PolicyData.{PolicyData}
use Rattle.gx_history.specs.declared.record.{Asked.Asked, Step.Step, RecordData.RecordData}
use Rattle.gx_access_gate.specs.declared.outcome.Outcome.{Outcome}

-- a policy, and the records of a day under it
pub record GateData : Type 0 where
  pub policy : PolicyData
  pub records : List RecordData

-- the record of a request with this outcome
abbrev pub left_by : Asked → Outcome → RecordData
left_by a o = record { number = o.number; moment = o.moment; step = Step.Asked a; verdict = o.verdict }

-- the record of a matching step with this outcome
abbrev pub matched_by : ℕ → Outcome → RecordData
matched_by handed o = record { number = o.number; moment = o.moment; step = Step.Matching handed; verdict = o.verdict }
