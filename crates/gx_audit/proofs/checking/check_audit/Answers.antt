use Rattle.std.specs.Prelude.{Err}
use Rattle.gx_audit.proofs.Bytes_only.{is_only}
use Rattle.gx_audit.proofs.checking.check_audit.Goals as goal

pub returns-in-Err-clause-only : goal.returns-in-Err-clause-only
returns-in-Err-clause-only g c = is_only c.args.policy.now c.args.bytes.now (Err c.in-Err.fault) c.in-Err.ensures.fault
