use Rattle.gx_client.proofs.Packets_laws.{nothing_follows_a_fault}
use Rattle.gx_client.proofs.laws.nothing_follows_a_fault.Goals as goal

pub returns : goal.returns
returns c = nothing_follows_a_fault
