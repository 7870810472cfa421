use Rattle.std.proofs.Common.{◌∙◌, ap, drop, sym, take}
use Rattle.gx_history.specs.declared.record.Step.{Step}
use Rattle.gx_audit_bytes.specs.Written.{is_request_written, is_step_written}
use Rattle.gx_audit_bytes.proofs.written.is_step_written.Goals as goal

pub returns-in-Asked : goal.returns-in-Asked
returns-in-Asked c =
    c.is_request_written.ensures
    ∙ (λ i. is_request_written c.in-Asked.asked.request (c.byte.ensures i) (take 58 (drop 37 c.args.bytes.now)))
    ∙ ap (λ (step : Step). is_step_written step c.args.bytes.now) (sym c.in-Asked.is)
