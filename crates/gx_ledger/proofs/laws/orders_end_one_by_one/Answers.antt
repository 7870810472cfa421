use Rattle.gx_ledger.proofs.EndedOrders_followed.{all_are_ended, none_closes, one_more_closes}
use Rattle.gx_ledger.proofs.laws.orders_end_one_by_one.Goals as goal

pub returns : goal.returns
returns c = record { none = none_closes; more = one_more_closes; all = all_are_ended }
