use Rattle.std.proofs.Common.{◌≡◌, map}
use Rattle.gx_streams.specs.Telling.{with_all_reports}
use Rattle.gx_gate_state.specs.Ends.{HaveReservedFor, end_report}
use Rattle.gx_gate_state.proofs.ends.tell_each.Given as goal

-- telling what is left is telling all, and each has his places for what is left
abbrev pub invariant-loop-order : goal.invariant-loop-order
invariant-loop-order l =
    (goal.iterator-loop-order).can_next l.order-iterator ×
    (goal.iterator-loop-order).is_finite l.order-iterator ×
    HaveReservedFor (map (end_report l.fn.moment) l.order-iterator) l.streams ×
    (with_all_reports (map (end_report l.fn.moment) l.order-iterator) l.streams ≡ with_all_reports (map (end_report l.fn.moment) l.fn.ending) l.fn.streams)
