use Rattle.std.proofs.lemmas.Result.{IfOk-weaker}
use Rattle.gx_shared.proofs.Resumed_day.{day_goes_on}
use Rattle.gx_shared.proofs.keeping.serve_journaled.Goals as goal

pub returns-clause-goes_on : goal.returns-clause-goes_on
returns-clause-goes_on g c =
    let gate = (g.G.AccessGate.state c.log_out_at_last.new.gate) in
    IfOk-weaker c.serve_named.result _ _
    (λ left begins. day_goes_on (g.G.AccessGate.state c.args.gate).policy gate (g.G.AccessGate.state left.0.gate).records c.log_out_at_last.ensures.policy c.log_out_at_last.ensures.added c.log_out_at_last.ensures.nobody_on begins)
    c.serve_named.ensures.front
