use Rattle.std.proofs.Common.{arith, ◌++◌, length-append, refl}
use Rattle.gx_follower.specs.Readings.{read_of}
use Rattle.gx_follower.proofs.Reading_next.{answered_on, filled_on}
use Rattle.gx_follower.proofs.piece.take_all.Goals as goal

pub settle-requires-clause-reading : goal.settle-requires-clause-reading
settle-requires-clause-reading g c =
    filled_on c.loop-left.reading (record { version = c.loop-left.reading.version; whole = c.loop-left.reading.whole; rest = c.fill-left.new.rest }) (g.G.AccessGate.state c.loop-left.gate) c.loop-left.left.now
    c.fill-left.result.now (read_of c.args.reading.now (g.G.AccessGate.state c.args.gate.now) ++ c.args.bytes.now) c.loop-left.invariant.settled.0 refl refl c.fill-left.ensures.bytes c.loop-left.invariant.read
    (omega (arith, c.requires.room, length-append (read_of c.args.reading.now (g.G.AccessGate.state c.args.gate.now)) c.args.bytes.now))

pub returns-in-Err-clause-fault : goal.returns-in-Err-clause-fault
returns-in-Err-clause-fault g c =
    answered_on (g.G.AccessGate.state c.args.gate.now).policy (g.G.AccessGate.state c.loop-left.gate).policy c.loop-left.reading
    (record { version = c.loop-left.reading.version; whole = c.loop-left.reading.whole; rest = c.fill-left.new.rest }) (g.G.AccessGate.state c.loop-left.gate) c.loop-left.left.now c.fill-left.result.now
    (read_of c.args.reading.now (g.G.AccessGate.state c.args.gate.now) ++ c.args.bytes.now) c.in-Err.fault c.loop-left.invariant.policy refl c.fill-left.ensures.bytes c.loop-left.invariant.read c.in-Err.ensures.fault
