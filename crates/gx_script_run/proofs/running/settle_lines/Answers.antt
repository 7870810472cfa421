use Rattle.std.proofs.Common.{◌∙◌, sym}
use Rattle.gx_units.proofs.Results_hold.{on_err}
use Rattle.gx_script_run.proofs.Settle_call.{settles_first, settles_half, settles_last, settles_more}
use Rattle.gx_script_run.proofs.running.settle_lines.Goals as goal

pub returns-in_err-add_match-clause-err : goal.returns-in_err-add_match-clause-err
returns-in_err-add_match-clause-err g c =
    on_err _ _
    (settles_half (g.G.AccessGate.state c.args.gate.now) (g.G.AccessGate.state c.loop.gate) (g.G.AccessGate.state c.add_match.new.gate) c.args.moment c.loop.text.items c.loop.invariant c.is_legal.ensures.legal c.in_err-add_match.ensures.err)

pub returns-then-branch-clause-ok : goal.returns-then-branch-clause-ok
returns-then-branch-clause-ok g c =
    settles_last (g.G.AccessGate.state c.args.gate.now) (g.G.AccessGate.state c.loop.gate) (g.G.AccessGate.state c.add_match.new.gate) c.args.moment c.loop.text.items c.add_match.new.text.items c.loop.invariant c.is_legal.ensures.legal
    (sym c.in_ok-add_match.ensures.over ∙ c.if-branch.true) c.in_ok-add_match.ensures.gate c.in_ok-add_match.ensures.text

pub loop-init : goal.loop-init
loop-init g c = settles_first (g.G.AccessGate.state c.args.gate.now) c.args.moment c.args.text.now.items c.requires.empty

pub loop-preserved : goal.loop-preserved
loop-preserved g c =
    settles_more (g.G.AccessGate.state c.args.gate.now) (g.G.AccessGate.state c.loop.gate) (g.G.AccessGate.state c.add_match.new.gate) c.args.moment c.loop.text.items c.add_match.new.text.items c.loop.invariant c.is_legal.ensures.legal
    (sym c.in_ok-add_match.ensures.over ∙ c.if-branch.false) c.in_ok-add_match.ensures.gate c.in_ok-add_match.ensures.text
