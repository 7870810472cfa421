use Rattle.std.proofs.Common.{◌∙◌, ap}
use Rattle.gx_policy.specs.declared.policy.PolicyData.{PolicyData}
use Rattle.gx_peaks.proofs.Table_next.{all_rules, no_rule_yet, one_more_rule}
use Rattle.gx_peaks.proofs.table.PeakTable.note_account.Goals as goal

pub loop-rule-init : goal.loop-rule-init
loop-rule-init g c =
    no_rule_yet (g.G.AccessGate.state c.args.gate.now).policy (g.G.AccessGate.state c.args.gate.now).records c.args.account c.args.side c.rules-rule-items.result.now c.args.self.now

pub loop-rule-preserved : goal.loop-rule-preserved
loop-rule-preserved g c =
    one_more_rule (g.G.AccessGate.state c.args.gate.now).policy (g.G.AccessGate.state c.args.gate.now).records c.args.account c.args.side c.rules-rule-items.result.now c.loop-rule.rule-index c.rule-item.result
    c.args.self.now c.loop-rule.self c.note_under.new.self c.loop-rule-test.true c.rule-item.is c.loop-rule.invariant c.in_ok-note_under.ensures.noted

pub returns : goal.returns
returns g c = record {
  noted =
      all_rules (g.G.AccessGate.state c.args.gate.now).policy (g.G.AccessGate.state c.args.gate.now).records c.args.account c.args.side c.rules-rule-items.result.now c.loop-rule.rule-index
      c.args.self.now c.loop-rule.self (c.rules-rule-items.ensures.same ∙ ap (λ (p : PolicyData). p.rules) c.policy.ensures) c.loop-rule-test.false c.loop-rule.invariant;
}
