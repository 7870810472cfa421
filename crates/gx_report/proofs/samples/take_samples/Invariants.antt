use Rattle.std.proofs.Common.{◌≡◌, ◌++◌, map, take}
use Rattle.gx_report.specs.Samples.{sample_of}
use Rattle.gx_report.proofs.samples.take_samples.Given as goal

abbrev pub invariant-loop-seat : goal.invariant-loop-seat
invariant-loop-seat g l = l.list.items ≡ l.fn.list.items ++ map (sample_of (g.G.AccessGate.state l.gate).policy (g.G.AccessGate.state l.gate).records) (take l.seat-index l.seats)
