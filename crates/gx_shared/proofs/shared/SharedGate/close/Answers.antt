use Rattle.std.proofs.Common.{subst}
use mathlib.Core.List.{IsPrefix}
use Rattle.gx_shared.specs.CountedPasses.{CountedPassData}
use Rattle.gx_shared.proofs.shared.SharedGate.close.Goals as goal

pub returns-clause-front : goal.returns-clause-front
returns-clause-front g c = subst (λ (t : CountedPassData). IsPrefix t.held.front (g.G.AccessGate.state c.close-gate.result.0).records) c.pass.view_is c.close-gate.ensures.front
