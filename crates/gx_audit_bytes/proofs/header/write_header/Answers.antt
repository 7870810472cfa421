use Rattle.std.proofs.Common.{◌∙◌}
use Rattle.gx_audit_bytes.proofs.Header_parts.{parts_lie}
use Rattle.gx_audit_bytes.proofs.header.write_header.Goals as goal

pub returns-clause-fields : goal.returns-clause-fields
returns-clause-fields c = parts_lie c.args.policy.now c.whole.result (c.whole.ensures ∙ c.as_slice.ensures ∙ c.header_draft.ensures.bytes)
