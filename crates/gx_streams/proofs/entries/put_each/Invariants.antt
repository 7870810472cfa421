use Rattle.std.proofs.Common.{◌≡◌, ◌≤◌, length, map, take}
use Rattle.std.specs.Prelude.{vec_capacity, vec_len}
use Rattle.gx_streams.specs.Slots.{lists_of, report_in_slot}
use Rattle.gx_streams.proofs.entries.put_each.Given as goal

abbrev pub invariant-loop-slot : goal.invariant-loop-slot
invariant-loop-slot l = record {
  put : l.reports.items ≡ map (report_in_slot l.fills (lists_of l.lists)) (take l.slot-index l.slots);
  count : vec_len l.reports ≡ l.slot-index;
  room : length l.slots ≤ vec_capacity l.reports;
}
