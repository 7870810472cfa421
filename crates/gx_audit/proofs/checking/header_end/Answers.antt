use Rattle.std.proofs.Common.{drop, refl}
use Rattle.gx_audit.proofs.Header_call.{begins_with, behind_header, is_headed}
use Rattle.gx_audit.proofs.checking.header_end.Goals as goal

pub returns-then-same_bytes-clause-headed : goal.returns-then-same_bytes-clause-headed
returns-then-same_bytes-clause-headed c =
    is_headed c.args.version c.args.policy.now (drop 128 c.args.bytes.now) c.args.bytes.now c.requires.version
    (begins_with c.args.version c.args.policy.now c.args.bytes.now c.record_at.result c.write_header_in.result c.record_at.ensures c.write_header_in.ensures.bytes
    (c.if-same_bytes.ensures.same refl))

pub returns-then-same_bytes-clause-front : goal.returns-then-same_bytes-clause-front
returns-then-same_bytes-clause-front c =
    behind_header c.args.version c.args.policy.now c.args.bytes.now c.requires.version
    (begins_with c.args.version c.args.policy.now c.args.bytes.now c.record_at.result c.write_header_in.result c.record_at.ensures c.write_header_in.ensures.bytes
    (c.if-same_bytes.ensures.same refl))
