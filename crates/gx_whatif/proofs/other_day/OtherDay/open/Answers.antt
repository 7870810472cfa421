use Rattle.gx_whatif.proofs.Watcher_next.{begun}
use Rattle.gx_whatif.proofs.other_day.OtherDay.open.Goals as goal

pub returns : goal.returns
returns g c = record {
  before = λ old.
      begun g.N.MeansPolicy.meant old (g.G.AccessGate.state c.in_ok-gate.gate) c.in_ok-sources.sources.items c.new.result.items c.new-2.result.items c.args.other.now
      c.requires.meant c.in_ok-gate.ensures.policy c.in_ok-gate.ensures.records c.in_ok-sources.ensures.items c.new.ensures.items c.new-2.ensures.items;
}
