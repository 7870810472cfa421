use Rattle.gx_laws.proofs.{Runs_orderly.legal_is_orderly, Matches_end.{settled_idle, settled_step, settled_adds, settled_ends}}
use Rattle.gx_laws.proofs.effects.matching_settles.Goals as goal

pub returns : goal.returns
returns c = record {
  idle = settled_idle;
  step = λ policy history moment r legal. settled_step moment r (legal_is_orderly legal);
  matches = settled_adds;
  none_left = λ policy history moment legal. settled_ends moment (legal_is_orderly legal);
}
