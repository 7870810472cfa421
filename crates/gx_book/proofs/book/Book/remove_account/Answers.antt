use Rattle.std.proofs.Common.{List, ◌∙◌, sym, ap, ◌+◌, length, Bool}
use Rattle.std.specs.Prelude.{if◌then◌else◌}
use Rattle.gx_history.specs.declared.live_order.LiveOrder.{LiveOrder}
use Rattle.gx_book.specs.Books.{all_orders}
use Rattle.gx_book.proofs.AccountOrders_out.{all_counted, all_his_are_out, each_taken_out, none_gone, none_more, one_gone}
use Rattle.gx_book.proofs.book.Book.remove_account.Goals as goal

pub loop-order-init : goal.loop-order-init
loop-order-init c =
    (tt, tt, ap (λ (os : List LiveOrder). each_taken_out os c.args.self.now) c.into_iter-order-iterator.ensures.into_iter_gives, none_gone 18446744073709551615 c.args.self.now)

pub loop-order-preserved-then-is_some : goal.loop-order-preserved-then-is_some
loop-order-preserved-then-is_some c = (
  tt,
  tt,
  ap (each_taken_out c.next.new.self) c.remove.ensures.removed
      ∙ ap (λ (os : List LiveOrder). each_taken_out os c.loop-order.self) (sym c.in-Some.ensures.steps)
      ∙ c.loop-order.invariant.2,
  one_gone c.loop-order.count c.saturating_add-count.result 18446744073709551615 c.args.self.now c.loop-order.self c.remove.new.self c.loop-order.invariant.3
      (ap (λ (b : Bool). length (all_orders c.remove.new.self) + (if b then 1 else 0)) c.if-is_some.ensures ∙ c.remove.ensures.counted)
      c.saturating_add-count.ensures,
)

pub loop-order-preserved : goal.loop-order-preserved
loop-order-preserved c = (
  tt,
  tt,
  ap (each_taken_out c.next.new.self) c.remove.ensures.removed
      ∙ ap (λ (os : List LiveOrder). each_taken_out os c.loop-order.self) (sym c.in-Some.ensures.steps)
      ∙ c.loop-order.invariant.2,
  none_more c.loop-order.count 18446744073709551615 c.args.self.now c.loop-order.self c.remove.new.self c.loop-order.invariant.3
      (ap (λ (b : Bool). length (all_orders c.remove.new.self) + (if b then 1 else 0)) c.if-is_some.ensures ∙ c.remove.ensures.counted),
)

pub returns-clause-removed : goal.returns-clause-removed
returns-clause-removed c =
    ap (λ (os : List LiveOrder). each_taken_out os c.loop-order.self) (sym c.in-None.ensures.steps.0)
    ∙ c.loop-order.invariant.2
    ∙ all_his_are_out c.args.account c.args.orders c.args.self.now c.requires.all

pub returns-clause-counted : goal.returns-clause-counted
returns-clause-counted c =
    all_counted c.args.account c.loop-order.count 18446744073709551615 c.args.self.now c.loop-order.self c.loop-order.invariant.3 (returns-clause-removed c)
