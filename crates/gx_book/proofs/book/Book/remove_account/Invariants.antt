use Rattle.std.proofs.Common.{◌≡◌}
use Rattle.gx_book.proofs.AccountOrders_out.{HaveGone, each_taken_out}
use Rattle.gx_book.proofs.book.Book.remove_account.Given as goal

-- taking out what is left is taking out all, and so many have gone
abbrev pub invariant-loop-order : goal.invariant-loop-order
invariant-loop-order l =
    (goal.iterator-loop-order).can_next l.order-iterator ×
    (goal.iterator-loop-order).is_finite l.order-iterator ×
    (each_taken_out l.order-iterator l.self ≡ each_taken_out l.fn.orders l.fn.self) ×
    HaveGone l.count 18446744073709551615 l.fn.self l.self
