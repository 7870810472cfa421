use Rattle.std.proofs.Common.{◌≡◌, ◌≤◌, take}
use Rattle.gx_units.specs.declared.names.UserName.{UserName}
use Rattle.gx_streams.specs.{Kept.reserved_in, Streams.has_own_stream, Telling.shown_streams}
use Rattle.gx_gate_state.specs.State.{HaveEnough}
use Rattle.gx_gate_state.proofs.reserve.reserve_enough_for_all.Given as goal

abbrev pub invariant-loop-user : goal.invariant-loop-user
invariant-loop-user l =
    record {
      shown : shown_streams l.streams ≡ shown_streams l.fn.streams;
      known : (other : UserName) → has_own_stream l.streams other ≡ has_own_stream l.fn.streams other;
      readers : l.streams.readers ≡ l.fn.streams.readers;
      more : (other : UserName) → reserved_in l.fn.streams.lists other ≤ reserved_in l.streams.lists other;
      places : HaveEnough l.fn.orders.live l.fn.people l.fn.policy l.streams (take l.user-index l.user-items);
    }
