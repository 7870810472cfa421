use Rattle.std.proofs.Common.{◌≡◌, ◌++◌}
use Rattle.gx_endings.specs.Endings.{ends_of}
use Rattle.gx_endings.proofs.order_ends.note_each.Given as goal

-- what was noted, and what is left, are all
abbrev pub invariant-loop-order : goal.invariant-loop-order
invariant-loop-order l =
    (goal.iterator-loop-order).can_next l.order-iterator ×
    (goal.iterator-loop-order).is_finite l.order-iterator ×
    (l.list.items ++ ends_of l.ended_by l.order-iterator ≡ l.initial.list.items ++ ends_of l.ended_by l.fn.ended)
