-- What a matching step answers for: its verdict, and what it changes.
use Rattle.std.specs.Prelude.{◌≡◌, ℕ, [], ◌∷◌, ◌++◌, Option, Some, None}
use Rattle.gx_history.specs.{declared.record.{RecordData.RecordData, Step.Step, Verdict.Verdict}, Matching.matching, Settling.{AddsMatches, most_matches, settled_records}, Verdicts.next}
use Rattle.gx_access_gate.specs.{declared.outcome.Outcome.Outcome, Gates.{GateData, matched_by}}

-- the record that a matching step leaves, unless no order waits
abbrev pub next_match : GateData → ℕ → Option RecordData
next_match gate handed = next gate.policy gate.records (Step.Matching handed)

-- what is matched next, if an order waits
abbrev pub matching_of : GateData → Option Verdict
matching_of gate = matching gate.policy gate.records

-- the gate with the record of a matching step last, if one was made
abbrev pub with_match : GateData → ℕ → Option Outcome → GateData
with_match gate handed None = gate
with_match gate handed (Some o) = record { policy = gate.policy; records = gate.records ++ matched_by handed o ∷ [] }

-- matching steps at this moment until no order waits
abbrev pub settled_gate : GateData → ℕ → GateData
settled_gate gate moment = record { policy = gate.policy; records = settled_records gate.policy gate.records moment }

-- some of the matching steps at this moment were made, and those that are left come to the same
pub record IsSettling (before : GateData) (moment : ℕ) (now : GateData) : Type 0 where
  pub policy_kept : now.policy ≡ before.policy
  pub adds : AddsMatches before.records now.records moment
  pub goes_on : settled_gate now moment ≡ settled_gate before moment

-- the most matching steps that there can be
abbrev pub matches_left : GateData → ℕ
matches_left gate = most_matches gate.policy gate.records
