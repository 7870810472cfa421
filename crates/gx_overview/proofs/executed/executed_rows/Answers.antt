use Rattle.std.proofs.Common.{◌∙◌, ap}
use Rattle.std.specs.Prelude.{fold, map}
use Rattle.gx_policy.specs.declared.policy.PolicyData.{PolicyData}
use Rattle.gx_history.specs.Executions.{executions}
use Rattle.gx_overview.specs.Executed.{no_executions, rows_after}
use Rattle.gx_overview.proofs.Fills_call.{rows_stand}
use Rattle.gx_overview.proofs.executed.executed_rows.Goals as goal

pub returns : goal.returns
returns g c = record {
  rows =
      rows_stand (g.G.AccessGate.state c.args.gate.now).policy (g.G.AccessGate.state c.args.gate.now).records c.in_ok-rows.rows.items c.deref_mut.result.now c.note_records.new.rows c.in_ok-rows.rows.len
      (c.in_ok-rows.ensures ∙ ap (map no_executions) (c.accounts.ensures ∙ ap (λ (p : PolicyData). p.accounts) c.policy-policy.ensures)) c.deref_mut.ensures.value
      (c.in_ok-note_records.ensures.noted
      ∙ (λ i. fold rows_after c.deref_mut.result.now (executions (c.policy-policy.ensures i) (c.shown_records.ensures i))))
      c.in_ok-rows.rows.ok.0;
}
