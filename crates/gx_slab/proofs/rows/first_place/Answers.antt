use Rattle.std.proofs.Common.{◌∙◌, sym, arith}
use Rattle.gx_slab.specs.Slabs.{is_waiting}
use Rattle.gx_slab.proofs.Waiting_first.{is_behind, is_first, none_is}
use Rattle.gx_slab.proofs.rows.first_place.Goals as goal

pub returns-then-is_waiting : goal.returns-then-is_waiting
returns-then-is_waiting c = sym (is_first is_waiting c.args.rows.now c.loop-place.place _ c.loop-place-test.true c.loop-place.invariant (sym c.is_waiting.ensures ∙ c.if-is_waiting.true))

pub loop-place-preserved : goal.loop-place-preserved
loop-place-preserved c = is_behind is_waiting c.args.rows.now c.loop-place.place _ c.loop-place-test.true c.loop-place.invariant (sym c.is_waiting.ensures ∙ c.if-is_waiting.false)

pub returns : goal.returns
returns c = sym (none_is is_waiting c.args.rows.now (omega (arith, c.loop-place-test.false, c.loop-place.invariant)))
