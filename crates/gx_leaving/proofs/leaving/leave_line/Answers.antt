use Rattle.std.proofs.Common.{ap}
use Rattle.gx_units.specs.declared.names.UserName.{UserName}
use Rattle.gx_history.specs.declared.record.{Asked.Asked, Request.Request}
use Rattle.gx_leaving.proofs.Logout_call.{adds_logout, leaves_line}
use Rattle.gx_leaving.proofs.leaving.leave_line.Goals as goal

pub returns-clause-added : goal.returns-clause-added
returns-clause-added g c =
    let asked : UserName → Asked = λ user. record { line = c.args.line; user = user; request = Request.Logout; handed = c.args.moment } in
    adds_logout (g.G.AccessGate.state c.args.gate.now) (g.G.AccessGate.state c.step.new.self) c.args.line c.args.user c.args.moment (asked c.folded.result) c.step.result c.is_legal.ensures.legal c.requires.on (ap asked c.folded.ensures.folded)
    c.step.ensures.never_refused c.step.ensures.next c.step.ensures.verdict c.step.ensures.records

pub returns-clause-left : goal.returns-clause-left
returns-clause-left g c =
    let asked : UserName → Asked = λ user. record { line = c.args.line; user = user; request = Request.Logout; handed = c.args.moment } in
    leaves_line (g.G.AccessGate.state c.args.gate.now) (g.G.AccessGate.state c.step.new.self) c.args.line c.args.user c.args.moment (asked c.folded.result) c.step.result c.is_legal.ensures.legal c.requires.on (ap asked c.folded.ensures.folded)
    c.step.ensures.never_refused c.step.ensures.next c.step.ensures.verdict c.step.ensures.records
