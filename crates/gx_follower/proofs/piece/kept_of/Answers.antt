use Rattle.std.proofs.Common.{sym, ◌∙◌}
use Rattle.gx_follower.proofs.Reading_stands.{is_bare}
use Rattle.gx_follower.proofs.piece.kept_of.Goals as goal

pub returns-else-has_header-clause-fault : goal.returns-else-has_header-clause-fault
returns-else-has_header-clause-fault g c =
    is_bare c.args.reading.now (g.G.AccessGate.state c.args.gate.now) c.in-Some.version c.requires.settled c.in-Some.is (sym c.has_header.ensures ∙ c.if-has_header.false)
