use Rattle.std.proofs.Common.{arith}
use Rattle.gx_show.proofs.Audit_walk.{begun, none_read, read_more, further_to}
use Rattle.gx_show.proofs.reading.read_records.Goals as goal

pub loop-at-init : goal.loop-at-init
loop-at-init c = record {
  within = omega arith;
  shown = none_read c.of-version.result c.new-records.result.items c.new-records.ensures.items;
  bytes = begun c.of-version.result c.new-records.result.items c.behind_header-left.result.now c.new-records.ensures.items;
}

pub loop-at-preserved : goal.loop-at-preserved
loop-at-preserved c = record {
  within = omega arith;
  shown =
      read_more c.of-version.result c.loop-at.records.items c.push.new.self.items c.in-Some.record c.record_at.result c.loop-at.invariant.shown c.in-Some.ensures.shown c.in-Some.ensures.bytes
      c.in_ok-push.ensures.items;
  bytes =
      further_to c.of-version.result c.loop-at.records.items c.push.new.self.items c.in-Some.record c.record_at.result c.behind_header-left.result.now c.loop-at.at c.loop-at.invariant.bytes
      c.in-Some.ensures.bytes c.record_at.ensures c.in_ok-push.ensures.items;
}
