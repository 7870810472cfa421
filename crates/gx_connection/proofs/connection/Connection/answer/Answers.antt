use Rattle.std.proofs.{Common.{sym, ◌∙◌}, lemmas.Result.err_from_is_err_and}
use Rattle.gx_units.proofs.Results_hold.{on_fault, if_err}
use Rattle.gx_connection.proofs.Connection_call.{packet_cut, login_is_waiting, login_cut}
use Rattle.gx_connection.proofs.connection.Connection.answer.Goals as goal

pub returns-in_err-next-clause-err : goal.returns-in_err-next-clause-err
returns-in_err-next-clause-err g c =
    let p = err_from_is_err_and c.from_residual.result c.from_residual.ensures.1 in
    on_fault _ _ _ _ p.1 p.2 (packet_cut (g.G.AccessGate.state c.args.gate.now) c.args.self.now c.args.packet.now c.args.moment _ _ _ _ _ c.in_err-next.ensures.err)

pub log_in-requires-clause-waiting : goal.log_in-requires-clause-waiting
log_in-requires-clause-waiting g c =
    login_is_waiting (g.G.AccessGate.state c.args.gate.now) c.args.self.now c.args.packet.now c.args.moment c.in_ok-next.next _ _ _ _ c.in_ok-next.ensures.next c.in-Login-Login.is-0 c.in_ok-next.ensures.ok

pub returns-in-Login-Login-clause-err : goal.returns-in-Login-Login-clause-err
returns-in-Login-Login-clause-err g c =
    if_err c.log_in.result _ _ (λ fault. login_cut (g.G.AccessGate.state c.args.gate.now) c.args.self.now c.args.packet.now c.args.moment c.in-Login-Login.login (g.G.AccessGate.state c.turn.new.gate) c.turn.new.self _ _ (sym c.in_ok-next.ensures.next ∙ c.in-Login-Login.is-0) c.in-Login-Login.is-1 c.in_ok-next.ensures.ok fault _ _ _) c.log_in.ensures.err
