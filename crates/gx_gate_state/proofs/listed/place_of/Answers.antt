use Rattle.std.proofs.Common.{ap, ◌∙◌}
use Rattle.gx_policy.specs.Soundness.{accounts_differ}
use Rattle.gx_laws.proofs.Names_differ.{accounts_differ as accounts_apart}
use Rattle.gx_gate_state.proofs.listed.place_of.Goals as goal

pub find_place_near-requires : goal.find_place_near-requires
find_place_near-requires c = ap accounts_differ c.accounts-accounts.ensures ∙ accounts_apart c.args.policy.now c.rules.ensures.sound
