use Rattle.std.proofs.lemmas.Result.{err_from_is_err_and}
use Rattle.gx_units.proofs.Results_hold.{on_fault}
use Rattle.gx_connection.proofs.{Step_call.of_step, Connection_call.{log_in_cut, login_undone}}
use Rattle.gx_connection.proofs.connection.Connection.log_in.Goals as goal

pub returns-in_err-turn-clause-err : goal.returns-in_err-turn-clause-err
returns-in_err-turn-clause-err g c =
    let p = err_from_is_err_and c.from_residual-in_err-turn.result c.from_residual-in_err-turn.ensures.1 in
    on_fault _ _ _ _ p.1 p.2 (log_in_cut (g.G.AccessGate.state c.args.gate.now) (g.G.AccessGate.state c.login_step.new.gate) c.args.self.now c.args.login.now c.args.moment c.in_ok-answer.answer c.first_told-self.result c.requires.waiting c.in_ok-answer.ensures.gate c.in_ok-answer.ensures.told c.first_told-self.ensures _ _ _ _ _ c.in_err-turn.ensures.err)

pub returns-in_err-answer-clause-err : goal.returns-in_err-answer-clause-err
returns-in_err-answer-clause-err g c =
    let p = err_from_is_err_and c.from_residual.result c.from_residual.ensures.1 in
    on_fault _ _ _ _ p.1 p.2 (login_undone (g.G.AccessGate.state c.args.gate.now) (g.G.AccessGate.state c.login_step.new.gate) c.args.self.now c.args.login.now c.args.moment _ (g.W.Write.contents c.args.writer.now.device) c.in_err-answer.ensures.err (of_step _ _ _ c.in_err-answer.ensures.err c.in_err-answer.ensures.full))
