use Rattle.gx_client.proofs.Packet_read.{debug_read, unsequenced_read}
use Rattle.gx_client.proofs.laws.others_are_passed_over.Goals as goal

pub returns : goal.returns
returns c = record { debug = debug_read; unsequenced = unsequenced_read }
