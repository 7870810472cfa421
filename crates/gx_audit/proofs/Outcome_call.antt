-- A record and what came of its step.
use Rattle.std.proofs.Common.{◌≡◌, sym}
use Rattle.gx_history.specs.declared.record.RecordData.{RecordData}
use Rattle.gx_access_gate.specs.declared.outcome.Outcome.{Outcome}
use Rattle.gx_audit.specs.Auditing.{record_left}

-- of one number, moment and verdict
pub same_outcome : (shown : RecordData) (outcome : Outcome) → shown.number ≡ outcome.number → shown.moment ≡ outcome.moment → shown.verdict ≡ outcome.verdict
    → record_left shown.step outcome ≡ shown
same_outcome shown outcome number moment verdict =
    λ i. record { number = sym number i; moment = sym moment i; step = shown.step; verdict = sym verdict i }
