use Rattle.std.proofs.Common.{◌≡◌}
use Rattle.std.specs.Prelude.{fold}
use Rattle.gx_overview.specs.Accounts.{entries_with}
use Rattle.gx_overview.proofs.accounts.note_live.Given as goal

-- counting what is left is counting all
abbrev pub invariant-loop-order : goal.invariant-loop-order
invariant-loop-order l =
    (goal.iterator-loop-order).can_next l.order-iterator ×
    (goal.iterator-loop-order).is_finite l.order-iterator ×
    (fold entries_with l.table.entries l.order-iterator ≡ fold entries_with l.initial.table.entries l.fn.live)
