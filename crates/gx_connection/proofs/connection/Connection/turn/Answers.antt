use Rattle.std.proofs.lemmas.Result.{err_from_is_err_and}
use Rattle.gx_units.proofs.Results_hold.{on_fault}
use Rattle.gx_session.specs.Happenings.{happening_of}
use Rattle.gx_connection.proofs.Connection_call.{turn_unwritten}
use Rattle.gx_connection.proofs.connection.Connection.turn.Goals as goal

pub returns-in_err-send_control-clause-err : goal.returns-in_err-send_control-clause-err
returns-in_err-send_control-clause-err g c =
    let p = err_from_is_err_and c.from_residual-in_err-send_control.result c.from_residual-in_err-send_control.ensures.1 in
    on_fault _ _ _ _ p.1 p.2
    (turn_unwritten (g.G.AccessGate.state c.args.gate.now) c.args.self.now (happening_of c.args.event) c.args.moment c.on-reply.result c.on-reply.new.self c.in-Some.control _ (g.G.AccessGate.state c.ask_gate.new.gate) _ _ c.on-reply.ensures.reply c.on-reply.ensures.session c.in-Some.is c.in_ok-ask_gate.ensures.ok c.in_err-send_control.ensures.front c.in_err-send_control.ensures.nothing)
