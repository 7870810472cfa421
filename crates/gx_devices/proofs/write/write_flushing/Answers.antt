use Rattle.std.proofs.Common.{◌∙◌, ◌-◌, length, drop, arith, length-take, length-drop}
use Rattle.gx_devices.proofs.Parts_written.{written_more, front_kept, front_still}
use Rattle.gx_devices.proofs.write.write_flushing.Goals as goal

pub loop-done-preserved : goal.loop-done-preserved
loop-done-preserved g c = record {
  within = omega (arith, c.in-Ok.ensures.bound, length-take (length c.args.bytes.now - c.loop-done.done) (drop c.loop-done.done c.args.bytes.now), length-drop c.loop-done.done c.args.bytes.now);
  text = written_more _ _ _ c.args.bytes.now c.loop-done.done c.in-Ok.n c.loop-done.invariant.text c.in-Ok.ensures.bytes;
  kept = c.in-Ok.ensures.kept c.if-n-gt0.true ∙ c.loop-done.invariant.kept;
}

pub returns-in_default-clause-front : goal.returns-in_default-clause-front
returns-in_default-clause-front g c =
    front_still _ _ _ c.args.bytes.now _ c.loop-done.done _ c.loop-done.invariant.text c.in-Ok.ensures.bytes (omega (arith, c.if-n-gt0.false))

pub returns-in_default-2-clause-front : goal.returns-in_default-2-clause-front
returns-in_default-2-clause-front g c =
    front_kept _ _ _ c.args.bytes.now c.loop-done.done c.loop-done.invariant.text c.in_default.ensures.bytes
