use Rattle.std.proofs.Common.{◌∙◌, ap, not}
use Rattle.gx_units.proofs.Results_hold.{on_err}
use Rattle.gx_connection.proofs.Step_call.{refused_left, settled_here}
use Rattle.gx_connection.proofs.connection.settle.Goals as goal

pub returns-then-is_none-clause-ok : goal.returns-then-is_none-clause-ok
returns-then-is_none-clause-ok g c =
    settled_here (g.G.AccessGate.state c.args.gate.now) (g.G.AccessGate.state c.loop.gate) (g.G.AccessGate.state c.match_one.new.self) c.args.moment c.in_ok-match_one.field-0 (c.is_none.ensures ∙ ap not c.if-is_none.true) c.loop.invariant c.in_ok-match_one.ensures.next c.in_ok-match_one.ensures.records

pub returns-in_err-match_one-clause-left : goal.returns-in_err-match_one-clause-left
returns-in_err-match_one-clause-left g c =
    on_err _ _ (refused_left (g.G.AccessGate.state c.args.gate.now) (g.G.AccessGate.state c.loop.gate) (g.G.AccessGate.state c.match_one.new.self) c.args.moment _ c.match_one.result _ c.loop.invariant c.is_legal.ensures.legal c.in_err-match_one.ensures.unchanged c.match_one.ensures.idle c.in_err-match_one.was)
