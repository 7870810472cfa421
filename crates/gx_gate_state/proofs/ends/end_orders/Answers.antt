use Rattle.std.proofs.Common.{List, ap, sym, subst, ◌∙◌}
use Rattle.gx_history.specs.declared.live_order.LiveOrder.{LiveOrder}
use Rattle.gx_desk.specs.declared.Action.{Action}
use Rattle.gx_matching.specs.Changes.{ended_by}
use Rattle.gx_ledger.specs.Following.{ClosesAll}
use Rattle.gx_gate_state.proofs.{Command_next.none_ends_by_default, EndedOrders_call.{close_day_closes, all_are_his, kill_closes}, Ledger_next.none_to_close}
use Rattle.gx_gate_state.proofs.ends.end_orders.Goals as goal

pub returns-in-Kill-clause-closed : goal.returns-in-Kill-clause-closed
returns-in-Kill-clause-closed c =
    kill_closes c.args.action.now c.in-Kill.account c.args.orders.now.live c.args.ledger.now c.close_each.new.ledger c.in-Kill.is
    (subst (λ (os : List LiveOrder). ClosesAll os c.args.ledger.now c.close_each.new.ledger) c.live_of.ensures c.close_each.ensures)

pub remove_account-requires : goal.remove_account-requires
remove_account-requires c = record { all = all_are_his c.in-Kill.account c.args.orders.now.live c.live_of-in-Kill.result c.args.book.now c.requires c.live_of-in-Kill.ensures }

pub returns-in-Kill-clause-taken : goal.returns-in-Kill-clause-taken
returns-in-Kill-clause-taken c = c.remove_account.ensures.removed ∙ ap (λ (a : Action). ended_by a c.args.book.now) (sym c.in-Kill.is)

pub returns-in-CloseDay-clause-closed : goal.returns-in-CloseDay-clause-closed
returns-in-CloseDay-clause-closed c =
    close_day_closes c.args.action.now c.args.orders.now.live c.args.ledger.now c.close_each-in-CloseDay.new.ledger c.in-CloseDay.is
    (subst (λ (os : List LiveOrder). ClosesAll os c.args.ledger.now c.close_each-in-CloseDay.new.ledger) c.live.ensures.live c.close_each-in-CloseDay.ensures)

pub returns-in_default : goal.returns-in_default
returns-in_default c =
    let none = none_ends_by_default c.args.action.now c.args.orders.now c.args.book.now c.in_default.not-Kill c.in_default.not-CloseDay in
    record { closed = none_to_close c.args.action.now c.args.orders.now.live c.args.ledger.now none.0; left = none.1; taken = none.2 }
