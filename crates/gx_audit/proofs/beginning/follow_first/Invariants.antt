use Rattle.std.proofs.Common.{◌≡◌, ◌≤◌, ◌-◌, ◌++◌, length, drop}
use Rattle.gx_audit_bytes.specs.Audits.{whole_audit, AreShown}
use Rattle.gx_audit.proofs.beginning.follow_first.Given as goal

abbrev pub invariant-loop-at : goal.invariant-loop-at
invariant-loop-at g l = record {
  within : l.at ≤ length l.audit;
  policy : (g.G.AccessGate.state l.gate).policy ≡ (g.G.AccessGate.state l.fn.gate).policy;
  few : length (g.G.AccessGate.state l.gate).records ≤ l.most;
  shown : AreShown l.version (g.G.AccessGate.state l.gate).records;
  saw : g.W.Watches.saw l.watcher (g.G.AccessGate.state l.gate).policy (g.G.AccessGate.state l.gate).records;
  bytes : whole_audit l.version (g.G.AccessGate.state l.fn.gate).policy (g.G.AccessGate.state l.gate).records ++ drop l.at l.audit ≡ l.audit;
}

abbrev pub decreases-loop-at : goal.decreases-loop-at
decreases-loop-at g l = length l.audit - l.at
