use Rattle.std.specs.Prelude.{Some, option_and_then, option_map}
use Rattle.std.proofs.Common.{◌∙◌}
use Rattle.gx_history.specs.declared.record.Step.{Step}
use Rattle.gx_audit_bytes.specs.Reading.{content_in, content_with}
use Rattle.gx_audit_bytes.proofs.reading.content.Goals as goal

pub returns : goal.returns
unfolding content_in
returns c =
    (λ i. Some (record { number = c.long.ensures i; moment = c.long-2.ensures i; step = c.in_ok-step.step; verdict = c.in_ok-verdict.verdict }))
    ∙ (λ i. option_and_then (λ (step : Step). option_map (content_with c.args.bytes.now step) (c.in_ok-verdict.ensures i)) (c.in_ok-step.ensures i))
