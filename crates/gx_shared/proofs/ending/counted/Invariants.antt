use Rattle.std.proofs.Common.{◌≡◌, ◌≤◌, ◌+◌, ◌*◌, ◌^◌, length}
use Rattle.std.specs.Prelude.{sum_by}
use Rattle.gx_history.specs.LiveOrders.{shares_open}
use Rattle.gx_shared.proofs.ending.counted.Given as goal

-- what is counted and what is left is all
abbrev pub invariant-loop-order : goal.invariant-loop-order
invariant-loop-order l =
    (goal.iterator-loop-order).can_next l.order-iterator ×
    (goal.iterator-loop-order).is_finite l.order-iterator ×
    (l.ended.orders + length l.order-iterator ≡ length l.fn.live) ×
    (l.ended.shares + sum_by shares_open l.order-iterator ≡ sum_by shares_open l.fn.live) ×
    (l.ended.shares ≤ l.ended.orders * 2 ^ 32)
