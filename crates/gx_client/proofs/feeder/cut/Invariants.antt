use Rattle.std.proofs.Common.{◌≡◌, ◌≤◌, ◌-◌, drop, length}
use Rattle.gx_client.specs.ServerPackets.{packets_behind, server_packets_of}
use Rattle.gx_client.proofs.feeder.cut.Given as goal

abbrev pub invariant-loop-used : goal.invariant-loop-used
invariant-loop-used l = record {
  within : l.used ≤ length l.bytes;
  told : packets_behind l.packets.items (server_packets_of (drop l.used l.bytes)) ≡ server_packets_of l.bytes;
}

abbrev pub decreases-loop-used : goal.decreases-loop-used
decreases-loop-used l = length l.initial.bytes - l.used
