use Rattle.std.proofs.Common.{◌≡◌, take}
use Rattle.std.specs.Prelude.{fold}
use Rattle.gx_connection.specs.{Transcript.{nothing_written, run_on_packet}, Piping.IsTaken}
use Rattle.gx_connection.proofs.pipe.take_packets.Given as goal

abbrev pub invariant-loop-packet : goal.invariant-loop-packet
invariant-loop-packet g l = record {
  taken : IsTaken (fold run_on_packet (nothing_written (g.G.AccessGate.state l.fn.gate) l.fn.connection) (take l.packet-index l.packets)) (g.G.AccessGate.state l.gate) l.connection (g.W.Write.contents l.fn.writer.device) (g.W.Write.contents l.writer.device);
  kept : l.writer.failed ≡ l.fn.writer.failed;
}
