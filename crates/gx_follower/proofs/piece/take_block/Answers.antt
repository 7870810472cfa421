use Rattle.std.proofs.Common.{subst}
use Rattle.std.specs.Prelude.{Option}
use Rattle.gx_audit_bytes.specs.declared.version.AuditVersion.{AuditVersion}
use Rattle.gx_follower.specs.Readings.{HasBegun}
use Rattle.gx_follower.proofs.Reading_stands.{version_behind}
use Rattle.gx_follower.proofs.piece.take_block.Goals as goal

pub take_record-requires-clause-version : goal.take_record-requires-clause-version
take_record-requires-clause-version g c =
    version_behind c.in-Some.known (g.G.AccessGate.state c.args.gate.now) c.args.block.now
    (subst (λ (v : Option AuditVersion). HasBegun v (g.G.AccessGate.state c.args.gate.now)) c.in-Some.is c.requires.begun)
