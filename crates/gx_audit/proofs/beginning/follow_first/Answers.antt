use Rattle.std.proofs.Common.{arith, List, ◌∙◌, ap, sym, subst, refl, length}
use Rattle.gx_policy.specs.declared.policy.PolicyData.{PolicyData}
use Rattle.gx_history.specs.declared.record.RecordData.{RecordData}
use Rattle.gx_audit.proofs.Audit_walk.{begins, none_shown, bytes_further, shown_further, fault_told}
use Rattle.gx_audit.proofs.beginning.follow_first.Goals as goal

pub loop-at-init : goal.loop-at-init
loop-at-init g c = record {
  within = c.requires.within;
  policy = refl;
  few = omega (arith, ap length c.requires.new);
  saw = subst (λ (records : List RecordData). g.W.Watches.saw c.args.watcher.now (g.G.AccessGate.state c.args.gate.now).policy records) (sym c.requires.new) c.requires.saw;
  shown = none_shown c.args.version (g.G.AccessGate.state c.args.gate.now).records c.requires.new;
  bytes = begins c.args.version (g.G.AccessGate.state c.args.gate.now).policy (g.G.AccessGate.state c.args.gate.now).records c.args.audit.now c.args.start c.requires.new c.requires.front;
}

pub loop-at-preserved : goal.loop-at-preserved
loop-at-preserved g c = record {
  within = omega arith;
  policy = c.in-Ok.ensures.policy ∙ c.loop-at.invariant.policy;
  few = omega (arith, c.in-Ok.ensures.len, c.if-length-most.false, c.length.ensures.count);
  saw = c.in-Ok.ensures.saw;
  shown =
      shown_further c.args.version c.record_at.result c.loop-at.invariant.shown c.in-Ok.ensures.ok;
  bytes =
      bytes_further c.args.version (g.G.AccessGate.state c.args.gate.now).policy c.record_at.result c.args.audit.now c.loop-at.at
      c.loop-at.invariant.bytes c.in-Ok.ensures.ok c.record_at.ensures;
}

pub returns-in-Err-clause-fault : goal.returns-in-Err-clause-fault
returns-in-Err-clause-fault g c =
    fault_told c.args.version (g.G.AccessGate.state c.args.gate.now).policy c.record_at.result c.args.audit.now c.loop-at.at c.in-Err.fault
    c.loop-at.invariant.policy c.requires.version c.check_watched.ensures.legal c.loop-at.invariant.shown c.loop-at.invariant.bytes (omega arith)
    c.record_at.ensures c.in-Err.ensures.fault

pub returns-then-length-most-clause-saw : goal.returns-then-length-most-clause-saw
returns-then-length-most-clause-saw g c =
    subst (λ (policy : PolicyData). g.W.Watches.saw c.loop-at.watcher policy (g.G.AccessGate.state c.loop-at.gate).records) c.loop-at.invariant.policy c.loop-at.invariant.saw

pub returns-clause-saw : goal.returns-clause-saw
returns-clause-saw g c =
    subst (λ (policy : PolicyData). g.W.Watches.saw c.loop-at.watcher policy (g.G.AccessGate.state c.loop-at.gate).records) c.loop-at.invariant.policy c.loop-at.invariant.saw
