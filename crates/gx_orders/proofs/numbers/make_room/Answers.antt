use Rattle.std.proofs.Common.{◌≤◌, ◌∙◌, ap, sym, subst, ℕ}
use Rattle.gx_units.proofs.Lists_hold.{filtered}
use Rattle.gx_slab.specs.Slabs.{numbered_of, order_of}
use Rattle.gx_orders.specs.Tables.{NumbersBelow, NumbersUpTo, is_live_of}
use Rattle.gx_orders.proofs.AccountOrders_next.{swept, swept_below}
use Rattle.gx_orders.proofs.numbers.make_room.Goals as goal

pub returns-in_err-reserve-clause-same : goal.returns-in_err-reserve-clause-same
returns-in_err-reserve-clause-same c =
    ap (numbered_of c.args.order.now.account c.args.table.now) (c.reserve.ensures.items ∙ c.sweep.ensures) ∙ swept (order_of c.args.order.now.account c.args.table.now) c.args.items.now.items

pub returns-in_err-reserve-clause-bound : goal.returns-in_err-reserve-clause-bound
returns-in_err-reserve-clause-bound c =
    subst (NumbersUpTo c.args.highest) (sym (c.reserve.ensures.items ∙ c.sweep.ensures))
    (filtered (λ (n : ℕ). n ≤ c.args.highest) (is_live_of c.args.order.now.account c.args.table.now) c.args.items.now.items c.requires.bound)

pub returns-clause-same : goal.returns-clause-same
returns-clause-same c =
    ap (numbered_of c.args.order.now.account c.args.table.now) (c.reserve.ensures.items ∙ c.sweep.ensures) ∙ swept (order_of c.args.order.now.account c.args.table.now) c.args.items.now.items

pub returns-clause-bound : goal.returns-clause-bound
returns-clause-bound c =
    subst (NumbersUpTo c.args.highest) (sym (c.reserve.ensures.items ∙ c.sweep.ensures))
    (filtered (λ (n : ℕ). n ≤ c.args.highest) (is_live_of c.args.order.now.account c.args.table.now) c.args.items.now.items c.requires.bound)

pub returns-clause-below : goal.returns-clause-below
returns-clause-below c =
    subst (NumbersBelow c.args.order.now.number) (sym (c.reserve.ensures.items ∙ c.sweep.ensures))
    (swept_below c.args.order.now.account c.args.order.now.number c.args.table.now c.requires.last c.args.items.now.items)
