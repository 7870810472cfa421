use Rattle.std.proofs.Common.{◌∙◌, drop, take}
use Rattle.gx_audit_bytes.specs.Reading.{step_of_bytes, step_shown}
use Rattle.gx_audit_bytes.proofs.reading.step_shown.Goals as goal

pub returns : goal.returns
unfolding step_shown
returns c = c.step.ensures ∙ (λ i. step_of_bytes (c.byte-kind.ensures i) (c.long-handed.ensures i) (c.short-line.ensures i) (c.whole-user.ensures i) (take 58 (drop 37 c.args.bytes.now)))
