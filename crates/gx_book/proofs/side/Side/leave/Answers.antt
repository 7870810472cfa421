use Rattle.std.proofs.Common.{ℕ, ◌∙◌, sym, ap}
use Rattle.std.specs.{Map.values_of}
use Rattle.gx_history.specs.Book.{is_buy}
use Rattle.gx_book.specs.{Keys.{are_keyed, orders_at}, Queue.{left_with, without_order}}
use Rattle.gx_book.proofs.Side_keys.{go_keyed, none_stays, stay_keyed, stays_at, taken_at}
use Rattle.gx_book.proofs.side.Side.leave.Goals as goal

pub invariant_of-self : goal.invariant_of-self
invariant_of-self g c =
    ap (λ es. are_keyed (is_buy g.row.SIDE) (orders_at (is_buy g.row.SIDE) es)) c.remove.ensures.entries ∙ go_keyed _ _ c.self.inside.orders.entries c.self.invariant

pub invariant_of-self-in-Some : goal.invariant_of-self-in-Some
invariant_of-self-in-Some g c =
    ap (λ es. are_keyed (is_buy g.row.SIDE) (orders_at (is_buy g.row.SIDE) es)) (c.get_mut.follows.holds _).0
    ∙ stay_keyed (is_buy g.row.SIDE) c.args.key c.args.shares c.in-Some.kept.now c.self.inside.orders.entries c.self.invariant (sym c.in-Some.ensures.value)

pub returns-then-shares-eq0 : goal.returns-then-shares-eq0
returns-then-shares-eq0 g c r here =
    ap (λ es. values_of (orders_at (is_buy g.row.SIDE) es)) c.remove.ensures.entries
    ∙ (taken_at _ c.args.key r c.self.inside.orders.entries here c.self.invariant c.len.ensures.ordered).1
    ∙ ap (without_order r) c.self.view_is
    ∙ ap (λ (n : ℕ). left_with r n c.args.self.now) (sym c.if-shares-eq0.true)

pub returns-in-Some : goal.returns-in-Some
returns-in-Some g c r here =
    ap (λ es. values_of (orders_at (is_buy g.row.SIDE) es)) (c.get_mut.follows.holds _).0
    ∙ stays_at (is_buy g.row.SIDE) c.args.key r c.args.shares c.in-Some.kept.now c.self.inside.orders.entries c.if-shares-eq0.false here c.self.invariant c.len.ensures.ordered (sym c.in-Some.ensures.value)
    ∙ ap (left_with r c.args.shares) c.self.view_is

pub returns-in_default : goal.returns-in_default
returns-in_default g c r here =
    ap (λ orders. values_of (orders_at (is_buy g.row.SIDE) orders.entries)) c.get_mut.follows.holds-at-none
    ∙ none_stays (is_buy g.row.SIDE) c.args.key r c.args.shares c.self.inside.orders.entries c.if-shares-eq0.false here c.self.invariant (sym c.in_default.ensures.value)
    ∙ ap (left_with r c.args.shares) c.self.view_is
