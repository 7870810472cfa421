use Rattle.gx_history.specs.Verdicts.{day_limit}
use Rattle.gx_whatif.proofs.OtherDay_next.{full_before}
use Rattle.gx_whatif.proofs.other_day.redo.Goals as goal

pub returns-in-Err-clause-day_full : goal.returns-in-Err-clause-day_full
returns-in-Err-clause-day_full g c full =
    full_before c.args.at_rest (g.G.AccessGate.state c.args.gate.now).policy (g.G.AccessGate.state c.args.gate.now).records c.args.left.now.step c.args.left.now.moment day_limit (c.in-Err.ensures.day_full full)
