use Rattle.std.proofs.Common.{◌∙◌, ap, arith}
use Rattle.gx_streams.specs.{declared.stored_report.StoredReport.StoredReport, Kept.{ReservedList, with_reserved_last}}
use Rattle.gx_streams.proofs.Slots_table.{AddsOne, kept_then, put_last}
use Rattle.gx_streams.proofs.stream.Stream.push_reserved.Goals as goal

-- the entry as it stands behind the slot
adds : (c : goal.After-push_reserved) → AddsOne c.self.inside.details c.put-slot.new.self c.self.inside.slots.items c.push_reserved.new.self.items c.args.entry c.put-slot.result
adds c = record {
  there = c.self.invariant.there;
  kept = c.put-slot.ensures.kept;
  last = c.push_reserved.ensures.items;
  entry = c.put-slot.ensures.entry;
  is_there = c.put-slot.ensures.there;
}

pub invariant_of-self : goal.invariant_of-self
invariant_of-self c =
    kept_then c.self.inside.details c.put-slot.new.self c.self.inside.slots.items c.push_reserved.new.self.items c.args.entry c.put-slot.result _ _ _ _ c.self.invariant (adds c)
    (omega (arith, c.self.invariant.room, c.put-slot.ensures.reserved, c.push_reserved.ensures.len, c.push_reserved.ensures.capacity))

pub returns : goal.returns
returns c =
    put_last c.self.inside.details c.put-slot.new.self c.self.inside.slots.items c.push_reserved.new.self.items c.args.entry c.put-slot.result (adds c) c.put-slot.ensures.reserved
    ∙ ap (λ (k : ReservedList StoredReport). with_reserved_last c.args.entry k) c.self.view_is
