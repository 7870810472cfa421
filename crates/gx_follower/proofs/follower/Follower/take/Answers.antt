use Rattle.gx_follower.proofs.Reading_stands.{are_whole}
use Rattle.gx_follower.proofs.follower.Follower.take.Goals as goal

pub returns-in-Ok-clause-whole : goal.returns-in-Ok-clause-whole
returns-in-Ok-clause-whole g c = are_whole c.take_all.new.reading (g.G.AccessGate.state c.take_all.new.gate) c.in-Ok.ensures.settled
