use Rattle.std.proofs.Common.{◌∙◌}
use Rattle.std.specs.Prelude.{fold, map}
use Rattle.gx_overview.specs.Accounts.{entries_with, row_of}
use Rattle.gx_overview.proofs.LiveOrders_call.{rows_stand}
use Rattle.gx_overview.proofs.accounts.account_rows.Goals as goal

pub returns : goal.returns
returns g c =
    let policy = (g.G.AccessGate.state c.args.gate.now).policy in
    let records = (g.G.AccessGate.state c.args.gate.now).records in
    record {
      rows =
          c.in_ok-rows.ensures
          ∙ (λ i. map (row_of policy records (c.in_ok-note_live.ensures.noted i)) (c.accounts.ensures i))
          ∙ (λ i. map (row_of policy records (fold entries_with (c.new-table.ensures.empty i) (c.live_orders.ensures i))) (c.policy.ensures i).accounts)
          ∙ rows_stand policy records;
    }
