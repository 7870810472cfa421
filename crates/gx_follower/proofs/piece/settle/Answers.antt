use Rattle.std.proofs.Common.{◌∙◌}
use Rattle.gx_follower.proofs.Reading_next.{told_on}
use Rattle.gx_follower.proofs.piece.settle.Goals as goal

pub returns-in-Err-clause-fault : goal.returns-in-Err-clause-fault
returns-in-Err-clause-fault g c =
    told_on c.args.reading.now (g.G.AccessGate.state c.args.gate.now) (g.G.AccessGate.state c.args.gate.now).policy c.whole-block.result c.in-Err.fault
    (c.whole-block.ensures ∙ c.as_slice.ensures.value) c.in-Err.ensures.fault
