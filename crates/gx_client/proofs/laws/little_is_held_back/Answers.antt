use Rattle.gx_client.proofs.Packets_laws.{little_is_held_back}
use Rattle.gx_client.proofs.laws.little_is_held_back.Goals as goal

pub returns : goal.returns
returns c = little_is_held_back
