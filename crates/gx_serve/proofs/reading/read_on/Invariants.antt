use Rattle.std.proofs.Common.{ℕ, List}
use Rattle.gx_reception.specs.Openings.{IsOpening}
use Rattle.gx_serve.proofs.Reader_next.{HeardSoFar}
use Rattle.gx_serve.proofs.reading.read_on.Given as goal

abbrev pub invariant-loop : goal.invariant-loop
invariant-loop g l = record {
  next : (goal.iterator-loop g).can_next l.iterator';
  finite : (goal.iterator-loop g).is_finite l.iterator';
  hears : (before : List ℕ) → IsOpening before l.fn.opening → HeardSoFar before (g.I.Read.remaining l.fn.reader.device) (g.I.Read.remaining l.reader.device) l.feeder l.left;
}
