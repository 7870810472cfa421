use Rattle.std.proofs.Common.{◌≡◌, ◌≤◌}
use Rattle.gx_devices.specs.{Devices.counted_on, Pieces.flow_of}
use Rattle.gx_devices.proofs.Run_pieces.{Stands}
use Rattle.gx_connection.specs.Piping.{way, IsRunAfter}
use Rattle.gx_connection.proofs.pipe.serve.Given as goal

abbrev pub invariant-loop : goal.invariant-loop
invariant-loop g l = record {
  stands : Stands (way (g.G.AccessGate.state l.fn.gate) l.first) (IsRunAfter (g.G.AccessGate.state l.fn.gate) l.first (g.G.AccessGate.state l.gate) l.connection l.feeder) (flow_of g.R.Read.remaining g.W.Write.contents l.fn.reader l.reader l.fn.writer l.writer);
  calls : counted_on l.fn.reader.calls l.counter ≤ l.reader.calls;
  reads : l.reader.failed ≡ l.fn.reader.failed;
  writes : l.writer.failed ≡ l.fn.writer.failed;
}
