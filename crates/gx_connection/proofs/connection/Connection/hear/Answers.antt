use Rattle.std.proofs.lemmas.Result.{err_from_is_err_and}
use Rattle.gx_units.proofs.Results_hold.{on_fault}
use Rattle.gx_connection.proofs.Connection_call.{message_cut, message_taken}
use Rattle.gx_connection.proofs.connection.Connection.hear.Goals as goal

pub returns-in_err-ask-in-Data-clause-err : goal.returns-in_err-ask-in-Data-clause-err
returns-in_err-ask-in-Data-clause-err g c =
    let p = err_from_is_err_and c.from_residual.result c.from_residual.ensures.1 in
    on_fault _ _ _ _ p.1 p.2 (message_cut (g.G.AccessGate.state c.args.gate.now) (g.G.AccessGate.state c.ask.new.gate) c.args.self.now c.ask.new.self c.args.packet.now c.in-Data.payload c.args.moment _ (g.W.Write.contents c.args.writer.now.device) c.in-Data.is c.ask.ensures.asks c.in_err-ask-in-Data.ensures.err c.in_err-ask-in-Data.ensures.full)

pub returns-in_ok-ask-in-Data-clause-ok : goal.returns-in_ok-ask-in-Data-clause-ok
returns-in_ok-ask-in-Data-clause-ok g c =
    message_taken (g.G.AccessGate.state c.args.gate.now) (g.G.AccessGate.state c.ask.new.gate) c.args.self.now c.ask.new.self c.args.packet.now c.in-Data.payload c.args.moment (g.W.Write.contents c.args.writer.now.device) c.in-Data.is c.in_ok-ask-in-Data.ensures.ok
