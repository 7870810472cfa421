use Rattle.std.proofs.Common.{◌∙◌}
use Rattle.gx_audit_bytes.proofs.Header_parts.{dated_lie}
use Rattle.gx_audit_bytes.proofs.header.write_header_3.Goals as goal

pub returns-clause-fields : goal.returns-clause-fields
returns-clause-fields c = dated_lie c.args.policy.now c.args.day c.whole.result (c.whole.ensures ∙ c.as_slice.ensures ∙ c.dated_draft.ensures.bytes)
