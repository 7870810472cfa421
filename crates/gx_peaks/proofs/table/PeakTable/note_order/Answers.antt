use Rattle.std.proofs.Common.{◌∙◌, subst, sym}
use Rattle.std.specs.Prelude.{Option, None, Some}
use Rattle.gx_units.proofs.Results_hold.{ok_then}
use Rattle.gx_history.specs.declared.live_order.LiveOrder.{LiveOrder}
use Rattle.gx_peaks.specs.Noting.{AdvancesTo, IsOfAccount, IsOfOrder, stock_side_of}
use Rattle.gx_peaks.proofs.Peaks_call.{and_then}
use Rattle.gx_peaks.proofs.table.PeakTable.note_order.Goals as goal

pub returns : goal.returns
returns g c =
    let policy = (g.G.AccessGate.state c.args.gate.now).policy in
    let records = (g.G.AccessGate.state c.args.gate.now).records in
    let order = c.in-Some.order in
    record {
      noted =
          ok_then c.note_account-2.result
          (λ second.
          subst (λ (found : Option LiveOrder). AdvancesTo policy records (IsOfOrder policy found) c.args.self.now c.note_account-2.new.self) (sym c.in-Some.is ∙ c.live_order.ensures)
          (and_then policy records (IsOfAccount policy order.account None) (IsOfAccount policy order.account (Some (stock_side_of order))) c.args.self.now c.note_account.new.self c.note_account-2.new.self
          c.in_ok-note_account.ensures.noted second))
          c.note_account-2.ensures.noted;
    }
