use Rattle.std.proofs.{Common.rules, lemmas.Fn.filter_same}
use Rattle.gx_history.specs.Live.{live}
use Rattle.gx_whatif.specs.Following.{waits_numbered}
use Rattle.gx_whatif.proofs.waiting.sweep.Goals as goal

pub returns : goal.returns
returns g c =
    filter_same _ (waits_numbered (live (g.G.AccessGate.state c.args.gate.now).policy (g.G.AccessGate.state c.args.gate.now).records)) _ (λ x b f' t. search rules) _ _ c.retain.ensures.filtered
