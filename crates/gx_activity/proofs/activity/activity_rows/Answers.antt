use Rattle.std.proofs.Common.{◌∙◌}
use Rattle.std.specs.Prelude.{map}
use Rattle.gx_policy.specs.declared.policy.Account.{Account}
use Rattle.gx_activity.specs.Noting.{row_in, so_far}
use Rattle.gx_activity.proofs.Counts_bounds.{rows_stand}
use Rattle.gx_activity.proofs.activity.activity_rows.Goals as goal

pub returns : goal.returns
returns g c = record {
  rows =
      c.in_ok-rows.ensures
      ∙ (λ i. map (λ (a : Account). row_in c.in_ok-table.table.entries a.name) (c.accounts.ensures i))
      ∙ (λ i. map (λ (a : Account). row_in c.in_ok-table.table.entries a.name) (c.policy-policy.ensures i).accounts)
      ∙ rows_stand (g.G.AccessGate.state c.args.gate.now).policy (g.G.AccessGate.state c.args.gate.now).records c.length.result c.length.ensures.count c.length.ensures.few c.in_ok-table.table.entries
      (λ a. c.in_ok-table.ensures.noted a ∙ (λ i. so_far (c.policy-policy.ensures i) (c.shown_records.ensures i) a));
}
