use Rattle.std.proofs.Common.{◌∙◌, ap}
use Rattle.gx_audit_bytes.specs.{declared.version.AuditVersion.AuditVersion, Headers.header_in}
use Rattle.gx_audit.proofs.File_call.{begins_header}
use Rattle.gx_audit.proofs.resuming.is_new.Goals as goal

pub returns-then-file-lt-RECORD_SIZE : goal.returns-then-file-lt-RECORD_SIZE
returns-then-file-lt-RECORD_SIZE c =
    begins_header c.args.policy.now c.args.file.now c.write_header_in.result c.starts_with.result c.if-file-lt-RECORD_SIZE.true
    (c.write_header_in.ensures.bytes ∙ ap (λ (v : AuditVersion). header_in v c.args.policy.now) c.of.ensures.version)
    c.starts_with.ensures.value
