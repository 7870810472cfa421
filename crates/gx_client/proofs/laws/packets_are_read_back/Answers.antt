use Rattle.gx_client.proofs.Packet_read.{packet_read}
use Rattle.gx_client.proofs.laws.packets_are_read_back.Goals as goal

pub returns : goal.returns
returns c = packet_read
