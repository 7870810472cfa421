use Rattle.std.proofs.{Common.{◌∙◌, sym}, lemmas.Result.err_from_is_err_and}
use Rattle.gx_units.proofs.Results_hold.{on_fault, if_err, on_ok}
use Rattle.gx_connection.proofs.Connection_cut.{answer_cut, match_cut, take_done, pull_cut}
use Rattle.gx_connection.proofs.connection.Connection.take.Goals as goal

pub returns-in_err-name-clause-err : goal.returns-in_err-name-clause-err
returns-in_err-name-clause-err g c =
    let p = err_from_is_err_and c.from_residual.result c.from_residual.ensures.1 in
    on_fault _ _ _ _ p.1 p.2 (λ text more. answer_cut (g.G.AccessGate.state c.args.gate.now) c.args.self.now c.args.packet.now (sym c.is_over.ensures ∙ c.if-is_over.false) text more _ _ _ _ _ (rw c.saturating_add-self.ensures at c.in_err-name.ensures.err))

pub returns-in_err-match_orders-clause-err : goal.returns-in_err-match_orders-clause-err
returns-in_err-match_orders-clause-err g c =
    let p = err_from_is_err_and c.from_residual-in_err-match_orders.result c.from_residual-in_err-match_orders.ensures.1 in
    on_fault _ _ _ _ p.1 p.2 (λ text more. match_cut (g.G.AccessGate.state c.args.gate.now) c.args.self.now c.args.packet.now (sym c.is_over.ensures ∙ c.if-is_over.false) text more _ _ _ _ _ _ (rw c.saturating_add-self.ensures at c.in_ok-name.ensures.ok) c.in_err-match_orders.ensures.err)

pub returns-clause-ok : goal.returns-clause-ok
returns-clause-ok g c =
    on_ok c.pull.result _ _ (take_done (g.G.AccessGate.state c.args.gate.now) c.args.self.now c.args.packet.now (sym c.is_over.ensures ∙ c.if-is_over.false) _ _ _ _ _ _ (rw c.saturating_add-self.ensures at c.in_ok-name.ensures.ok) c.in_ok-match_orders.ensures.ok _ _) c.pull.ensures.ok

pub returns-clause-err : goal.returns-clause-err
returns-clause-err g c =
    if_err c.pull.result _ _ (λ fault cut text more. pull_cut (g.G.AccessGate.state c.args.gate.now) c.args.self.now c.args.packet.now (sym c.is_over.ensures ∙ c.if-is_over.false) text more _ _ _ _ _ _ (rw c.saturating_add-self.ensures at c.in_ok-name.ensures.ok) c.in_ok-match_orders.ensures.ok fault _ _ cut) c.pull.ensures.err
