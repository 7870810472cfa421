use Rattle.std.proofs.Common.{◌∙◌}
use Rattle.gx_audit_bytes.proofs.Record_read.{fields_lie}
use Rattle.gx_audit_bytes.proofs.writing.write_content.Goals as goal

pub returns-clause-fields : goal.returns-clause-fields
returns-clause-fields c =
    fields_lie c.args.version c.args.content.now c.into_whole.result (c.into_whole.ensures ∙ c.record_draft.ensures.bytes) c.record_draft.ensures.places
