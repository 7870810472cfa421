use Rattle.std.proofs.{Common.arith, lemmas.Result.err_from_is_err_and}
use Rattle.gx_units.proofs.Results_hold.{on_fault}
use Rattle.gx_connection.proofs.Connection_cut.{item_cut}
use Rattle.gx_connection.proofs.pipe.take_packets.Goals as goal

pub returns-in_err-take-clause-err : goal.returns-in_err-take-clause-err
returns-in_err-take-clause-err g c =
    let p = err_from_is_err_and c.from_residual.result c.from_residual.ensures.1 in
    on_fault _ _ _ _ p.1 p.2 (item_cut (g.G.AccessGate.state c.args.gate.now) c.args.connection.now c.args.packets.now c.loop-packet.packet-index c.packet-item.result (omega arith) c.packet-item.is (g.G.AccessGate.state c.loop-packet.gate) c.loop-packet.connection _ _ _ _ (g.G.AccessGate.state c.take.new.gate) c.take.new.self c.loop-packet.invariant.taken c.in_err-take.ensures.err)
