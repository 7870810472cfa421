use Rattle.gx_reception.proofs.Packets_idle.{Waits}
use Rattle.gx_reception.proofs.arriving.await_login.Given as goal

abbrev pub invariant-loop : goal.invariant-loop
invariant-loop g l = record {
  next : (goal.iterator-loop g).can_next l.iterator';
  finite : (goal.iterator-loop g).is_finite l.iterator';
  waits : Waits (g.I.Read.remaining l.fn.reader.device) (g.I.Read.remaining l.reader.device) l.feeder;
}
