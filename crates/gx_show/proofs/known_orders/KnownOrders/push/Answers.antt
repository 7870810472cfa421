use Rattle.std.proofs.Common.{rules, ◌≡◌, subst, List, ◌++◌, ◌∷◌, [], ℕ}
use Rattle.gx_history.specs.declared.live_order.UserToken.{UserToken}
use Rattle.gx_show.specs.{declared.known_order.KnownOrder.KnownOrder, Tables.{AreFound, FindsNumber, FindsToken}}
use Rattle.gx_show.proofs.FoundOrders_next.{found_next}
use Rattle.gx_show.proofs.known_orders.KnownOrders.push.Goals as goal

pub invariant_of-self-2 : goal.invariant_of-self-2
invariant_of-self-2 c =
    let numbers : FindsNumber c.args.order c.self.inside.by_number.entries c.note_number.new.by_number.entries =
    subst (λ (es : List (ℕ × KnownOrder)). FindsNumber c.args.order es c.note_number.new.by_number.entries) c.reserve-2.ensures.entries c.in_ok-note_number.ensures.found
    in
    let tokens : FindsToken c.args.order c.self.inside.by_token.entries c.note_token.new.by_token.entries =
    subst (λ (es : List (UserToken × KnownOrder)). FindsToken c.args.order es c.note_token.new.by_token.entries) c.reserve-3.ensures.entries c.in_ok-note_token.ensures.found
    in
    let pushed : c.self.inside.orders.items ++ c.args.order ∷ [] ≡ c.push.new.self.items = search (rules, c.in_ok-push.ensures.items, c.reserve.ensures.items) in
    subst (λ (orders : List KnownOrder). AreFound orders c.note_number.new.by_number.entries c.note_token.new.by_token.entries) pushed
    (found_next c.self.inside.orders.items c.args.order c.self.inside.by_number.entries c.note_number.new.by_number.entries c.self.inside.by_token.entries c.note_token.new.by_token.entries c.self.invariant numbers tokens)
