use Rattle.std.proofs.Common.{◌∙◌, ap, sym}
use Rattle.std.specs.Prelude.{fold}
use Rattle.gx_overview.specs.Accounts.{entries_with}
use Rattle.gx_overview.proofs.accounts.note_live.Goals as goal

pub loop-order-preserved : goal.loop-order-preserved
loop-order-preserved c = (
  tt,
  tt,
  ap (λ entries. fold entries_with entries c.next.new.self) c.in_ok-note_order.ensures.noted ∙ sym (ap (fold entries_with c.loop-order.table.entries) c.in-Some.ensures.steps) ∙ c.loop-order.invariant.2,
)
