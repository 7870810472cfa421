use Rattle.std.proofs.Common.{◌∙◌, ap}
use Rattle.gx_access_gate.specs.Asking.{request_on_line_1}
use Rattle.gx_connection.proofs.Step_call.{told_is}
use Rattle.gx_connection.proofs.asking.login_step.Goals as goal

pub returns-clause-told : goal.returns-clause-told
returns-clause-told g c =
    told_is (g.G.AccessGate.state c.args.gate.now) c.args.moment c.args.login.now (g.G.AccessGate.state c.step.new.self) c.asked.result c.in_ok-outcome.outcome c.folded.result c.login_answer.result
    (c.asked.ensures.asked ∙ ap (λ q. request_on_line_1 c.args.login.now.user q c.args.moment) c.login_request-request.ensures.asked)
    c.in_ok-outcome.ensures.policy c.in_ok-outcome.ensures.next c.in_ok-outcome.ensures.records c.folded.ensures.folded c.login_answer.ensures
