use Rattle.std.proofs.Common.{arith, ◌∙◌, refl}
use Rattle.gx_audit.proofs.Audit_walk.{begins, none_shown, bytes_further, shown_further, fault_told}
use Rattle.gx_audit.proofs.checking.follow_records.Goals as goal

pub loop-at-init : goal.loop-at-init
loop-at-init g c = record {
  within = c.requires.within;
  policy = refl;
  shown = none_shown c.args.version (g.G.AccessGate.state c.args.gate.now).records c.requires.new;
  bytes = begins c.args.version (g.G.AccessGate.state c.args.gate.now).policy (g.G.AccessGate.state c.args.gate.now).records c.args.bytes.now c.args.start c.requires.new c.requires.front;
}

pub loop-at-preserved : goal.loop-at-preserved
loop-at-preserved g c = record {
  within = omega arith;
  policy = c.in-Ok.ensures.policy ∙ c.loop-at.invariant.policy;
  shown =
      shown_further c.args.version c.record_at.result c.loop-at.invariant.shown c.in-Ok.ensures.ok;
  bytes =
      bytes_further c.args.version (g.G.AccessGate.state c.args.gate.now).policy c.record_at.result c.args.bytes.now c.loop-at.at
      c.loop-at.invariant.bytes c.in-Ok.ensures.ok c.record_at.ensures;
}

pub returns-in-Err-clause-fault : goal.returns-in-Err-clause-fault
returns-in-Err-clause-fault g c =
    fault_told c.args.version (g.G.AccessGate.state c.args.gate.now).policy c.record_at.result c.args.bytes.now c.loop-at.at c.in-Err.fault
    c.loop-at.invariant.policy c.requires.version c.check_record.ensures.legal c.loop-at.invariant.shown c.loop-at.invariant.bytes (omega arith)
    c.record_at.ensures c.in-Err.ensures.fault

pub returns-clause-whole : goal.returns-clause-whole
returns-clause-whole g c = record {
  within = c.loop-at.invariant.within;
  short = omega arith;
  shown = c.loop-at.invariant.shown;
  bytes_are = c.loop-at.invariant.bytes;
}
