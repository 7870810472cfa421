use Rattle.std.proofs.{Common.{arith, ap, length}, Math.Path.subst}
use Rattle.std.specs.Prelude.{ℕ, ◌<◌, ◌^◌}
use Rattle.gx_streams.specs.Streams.{reports_in}
use Rattle.gx_core.proofs.Facts_call.{numbers_fit}
use Rattle.gx_core.proofs.putting.put_pull.Goals as goal

pub overflow_add-next : goal.overflow_add-next
overflow_add-next c =
    omega (
      arith,
      numbers_fit (reports_in c.args.state.now.streams c.args.user) c.args.from c.args.most (subst (λ (n : ℕ). n < 2 ^ 63) c.in_ok-owed.ensures.count c.in_ok-owed.ensures.few) c.ranges.from.fits,
      c.max.ensures,
      c.len.ensures,
      ap length c.in_ok-owed.ensures.part,
    )
