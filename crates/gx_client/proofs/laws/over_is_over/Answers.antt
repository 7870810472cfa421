use Rattle.gx_client.proofs.Session_next.{nothing_expected, stays_over}
use Rattle.gx_client.proofs.laws.over_is_over.Goals as goal

pub returns : goal.returns
returns c = record { told = nothing_expected; stays = stays_over }
