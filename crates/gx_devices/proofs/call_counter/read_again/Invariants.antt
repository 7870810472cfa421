use Rattle.std.specs.Io.KnownBytes.{Keeps}
use Rattle.gx_devices.proofs.call_counter.read_again.Given as goal

abbrev pub invariant-loop : goal.invariant-loop
invariant-loop g l = Keeps (g.D.Read.remaining l.fn.device) (g.D.Read.remaining l.device)
