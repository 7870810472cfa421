use Rattle.std.proofs.Common.{ℕ, sym, ◌∙◌, subst, true≢false}
use Rattle.std.specs.List.Sorted.{IsNonDecreasing}
use Rattle.circular_buffer.specs.Buffer.{Buffer}
use Rattle.gx_ledger.proofs.{Moments_rise.still_rise, moments.Moments.push.Goals.{then-self, else-self}}
use Rattle.gx_ledger.proofs.moments.Moments.push.Goals as goal

pub invariant_of-self : goal.invariant_of-self
invariant_of-self c = λ rises.
    subst (λ (b : Buffer ℕ). IsNonDecreasing b.items) (sym c.push_back.ensures.items)
    (elim c.if-self.branch [
      | then-self w ↦ still_rise c.self.inside.ring.capacity c.self.inside.ring.items c.args.moment (c.self.invariant w.if-self.true) (sym w.comes_last-rises.ensures ∙ sym w.rises-is ∙ rises)
      | else-self w ↦ absurd (true≢false (sym rises ∙ w.rises-is ∙ w.if-self.false))
    ])
