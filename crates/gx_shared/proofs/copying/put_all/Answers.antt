use Rattle.std.proofs.Common.{arith}
use Rattle.gx_shared.proofs.Records_copied.{one_copied}
use Rattle.gx_shared.proofs.copying.put_all.Goals as goal

pub loop-place-preserved : goal.loop-place-preserved
loop-place-preserved c = record {
  items =
      one_copied c.args.list.now.items c.loop-place.list.items c.push_reserved.new.self.items c.args.records.now c.loop-place.place c.at.result
      c.loop-place.invariant.items c.push_reserved.ensures.items c.at.ensures;
  len = omega (arith, c.push_reserved.ensures.len, c.loop-place.invariant.len);
  room = omega (arith, c.push_reserved.ensures.capacity, c.loop-place.invariant.room);
}
