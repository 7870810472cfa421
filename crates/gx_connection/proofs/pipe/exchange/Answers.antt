use Rattle.std.proofs.{lemmas.Result.err_from_is_err_and}
use Rattle.gx_units.proofs.Results_hold.{on_fault}
use Rattle.gx_connection.proofs.{Run_next.exchanged_by, Connection_cut.{broken_by, feed_cut}}
use Rattle.gx_connection.proofs.pipe.exchange.Goals as goal

pub returns-clause-ok : goal.returns-clause-ok
returns-clause-ok g c = λ before first bytes follows.
    rw (c.is_some.ensures, c.is_over-is_over.ensures)
    (exchanged_by before first bytes c.args.piece.now (g.G.AccessGate.state c.args.gate.now) (g.G.AccessGate.state c.take_packets.new.gate) c.args.connection.now c.take_packets.new.connection c.args.feeder.now c.feed_into.new.self c.feed_into.new.packets.items c.in_ok-fault.fault _ _ (c.in_ok-fault.ensures.fed bytes follows.reads) (rw c.as_slice.ensures.value at c.in_ok-take_packets.ensures.ok) follows)

pub returns-in_err-fault-clause-err : goal.returns-in_err-fault-clause-err
returns-in_err-fault-clause-err g c =
    let p = err_from_is_err_and c.from_residual.result c.from_residual.ensures.1 in
    on_fault _ _ _ _ p.1 p.2 (λ before first bytes follows. feed_cut before first bytes c.args.piece.now (g.G.AccessGate.state c.args.gate.now) c.args.connection.now c.args.feeder.now (g.W.Write.contents c.args.writer.now.device) follows)

pub returns-in_err-take_packets-clause-err : goal.returns-in_err-take_packets-clause-err
returns-in_err-take_packets-clause-err g c =
    let p = err_from_is_err_and c.from_residual-in_err-take_packets.result c.from_residual-in_err-take_packets.ensures.1 in
    on_fault _ _ _ _ p.1 p.2
    (broken_by (g.G.AccessGate.state c.args.gate.now) c.args.connection.now c.args.feeder.now c.feed_into.new.self c.args.piece.now c.feed_into.new.packets.items c.in_ok-fault.fault _ _ _ (g.G.AccessGate.state c.take_packets.new.gate) c.take_packets.new.connection c.in_ok-fault.ensures.fed (rw c.as_slice.ensures.value at c.in_err-take_packets.ensures.err))
