use Rattle.std.proofs.Common.{◌≡◌, ◌+◌, ◌*◌, ◌^◌, ◌≤◌, length, sum_by}
use Rattle.gx_history.specs.LiveOrders.{shares_open}
use Rattle.gx_endings.proofs.endings.ending_of.Given as goal

-- what was counted, and what is left, are all
abbrev pub invariant-loop-order : goal.invariant-loop-order
invariant-loop-order l =
    (goal.iterator-loop-order).can_next l.order-iterator ×
    (goal.iterator-loop-order).is_finite l.order-iterator ×
    (l.orders + length l.order-iterator ≡ length l.fn.live) ×
    (l.shares + sum_by shares_open l.order-iterator ≡ sum_by shares_open l.fn.live) ×
    (l.shares ≤ l.orders * 2 ^ 32)
