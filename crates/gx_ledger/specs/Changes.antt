-- What happens to orders.
use Rattle.gx_history.specs.declared.live_order.LiveOrder.{LiveOrder}
use Rattle.gx_ledger.specs.declared.change.ChangeKind.{ChangeKind}

-- what becomes of one order
pub record Change : Type 0 where
  pub order : LiveOrder
  pub kind : ChangeKind
