use Rattle.std.proofs.{Common.{◌∙◌, sym, ap, length}, lemmas.Result.err_from_is_err_and}
use Rattle.gx_units.proofs.Results_hold.{on_fault, if_err, on_ok}
use Rattle.gx_connection.proofs.Connection_call.{pull_done, pull_pauses, pull_unsent, pull_unturned}
use Rattle.gx_connection.proofs.connection.Connection.pull.Goals as goal

pub returns-in_err-reached-clause-err : goal.returns-in_err-reached-clause-err
returns-in_err-reached-clause-err g c =
    let p = err_from_is_err_and c.from_residual.result c.from_residual.ensures.1 in
    on_fault _ _ _ _ p.1 p.2 (pull_pauses (g.G.AccessGate.state c.args.gate.now) c.args.self.now c.args.moment (g.W.Write.contents c.args.writer.now.device))

pub returns-in_err-send_reports-clause-err : goal.returns-in_err-send_reports-clause-err
returns-in_err-send_reports-clause-err g c =
    let p = err_from_is_err_and c.from_residual-in_err-send_reports.result c.from_residual-in_err-send_reports.ensures.1 in
    on_fault _ _ _ _ p.1 p.2 (λ text more.
    pull_unsent (g.G.AccessGate.state c.args.gate.now) c.args.self.now c.args.moment c.put_reports.new.list.items c.count_of-count.result _ _ (sym c.is_on.ensures ∙ c.if-not-is_on.false) c.in_ok-reached.ensures.all (c.count_of-count.ensures.count ∙ ap length c.as_slice.ensures.value) text more _ _ _ (rw c.as_slice-2.ensures.value at c.in_err-send_reports.ensures.front) c.in_err-send_reports.ensures.nothing)

pub returns-clause-ok : goal.returns-clause-ok
returns-clause-ok g c =
    on_ok c.tell_pulled.result _ _ (pull_done (g.G.AccessGate.state c.args.gate.now) c.args.self.now c.args.moment c.put_reports.new.list.items c.count_of-count.result _ _ (sym c.is_on.ensures ∙ c.if-not-is_on.false) c.in_ok-reached.ensures.all (c.count_of-count.ensures.count ∙ ap length c.as_slice.ensures.value) _ _ _ _ _ (rw c.as_slice-2.ensures.value at c.in_ok-send_reports.ensures.sent)) c.tell_pulled.ensures.ok

pub returns-clause-err : goal.returns-clause-err
returns-clause-err g c =
    if_err c.tell_pulled.result _ _ (λ fault cut text more. pull_unturned (g.G.AccessGate.state c.args.gate.now) c.args.self.now c.args.moment c.put_reports.new.list.items c.count_of-count.result _ _ (sym c.is_on.ensures ∙ c.if-not-is_on.false) c.in_ok-reached.ensures.all (c.count_of-count.ensures.count ∙ ap length c.as_slice.ensures.value) text more fault _ _ _ _ _ (rw c.as_slice-2.ensures.value at c.in_ok-send_reports.ensures.sent) cut) c.tell_pulled.ensures.err
