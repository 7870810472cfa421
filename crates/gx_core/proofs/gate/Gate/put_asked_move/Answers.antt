use Rattle.std.proofs.Common.{sym, ap, ◌∙◌}
use Rattle.gx_history.specs.declared.record.Verdict.{Verdict}
use Rattle.gx_access_gate.specs.Gates.{GateData}
use Rattle.gx_core.specs.Moves.{granted_move}
use Rattle.gx_core.proofs.Move_call.{by_verdict, granted_is}
use Rattle.gx_core.proofs.gate.Gate.put_asked_move.Goals as goal

pub returns-in-Granted : goal.returns-in-Granted
returns-in-Granted c = record {
  does = c.put_granted.ensures
      ∙ ap (λ (g : GateData). granted_move g.policy c.args.left.now c.args.a.now c.args.known.now.account c.args.known.now.target_order c.args.a.now.request) c.self.view_is
      ∙ granted_is c.args.self.now c.args.left.now c.args.a.now c.args.known.now.account c.args.known.now.target_order c.requires.account c.requires.named
      ∙ sym (by_verdict c.args.self.now c.args.left.now c.args.a.now Verdict.Granted c.requires.asks c.in-Granted.is);
}
