use Rattle.std.proofs.Common.{◌∙◌}
use Rattle.gx_audit_bytes.specs.Reading.{verdict_of_bytes, verdict_shown}
use Rattle.gx_audit_bytes.proofs.reading.verdict_shown.Goals as goal

pub returns : goal.returns
unfolding verdict_shown
returns c = c.verdict.ensures ∙ (λ i. verdict_of_bytes (c.byte-letter.ensures i) (c.whole-rule.ensures i) (c.long-order.ensures i) (c.long-maker.ensures i) (c.number-shares.ensures i) (c.number-price.ensures i))
