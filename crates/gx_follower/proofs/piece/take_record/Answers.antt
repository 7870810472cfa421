use Rattle.gx_follower.proofs.Audit_next.{known_on}
use Rattle.gx_follower.proofs.piece.take_record.Goals as goal

pub returns-in-Ok-clause-known : goal.returns-in-Ok-clause-known
returns-in-Ok-clause-known g c =
    known_on c.args.version (g.G.AccessGate.state c.args.gate.now).policy (g.G.AccessGate.state c.check_watched.new.gate).policy (g.G.AccessGate.state c.args.gate.now).records
    (g.G.AccessGate.state c.check_watched.new.gate).records c.args.block.now c.in-Ok.ensures.policy c.requires.shown c.requires.version c.in-Ok.ensures.ok
