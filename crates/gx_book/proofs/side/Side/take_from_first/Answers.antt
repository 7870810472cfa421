use Rattle.std.proofs.Common.{◌∙◌, sym, ap}
use Rattle.gx_history.specs.Book.{is_buy}
use Rattle.gx_book.specs.{Keys.{resting_of_kept, price_at}, Queue.{left_with, taken_from_first}}
use Rattle.gx_book.proofs.Side_keys.{first_is_keyed}
use Rattle.gx_book.proofs.side.Side.take_from_first.Goals as goal

pub returns-in-Some : goal.returns-in-Some
returns-in-Some g c =
    let k = c.in-Some.key.now in
    let best = resting_of_kept k.1 (price_at (is_buy g.row.SIDE) k.0) c.in-Some.kept.now in
    let first = first_is_keyed (is_buy g.row.SIDE) c.self.inside.orders.entries k c.in-Some.kept.now c.args.shares c.self.invariant c.in-Some.ensures.first in
    c.leave.ensures best first.0
    ∙ ap (λ left. left_with best left c.args.self.now) c.saturating_sub-left.ensures
    ∙ ap (left_with best _) (sym c.self.view_is)
    ∙ sym first.1
    ∙ ap (taken_from_first c.args.shares) c.self.view_is
