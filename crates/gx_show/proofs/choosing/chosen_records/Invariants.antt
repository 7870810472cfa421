use Rattle.std.proofs.Common.{◌≡◌, take}
use Rattle.gx_show.specs.{Choosing.records_chosen, Known.known_orders}
use Rattle.gx_show.proofs.choosing.chosen_records.Given as goal

abbrev pub invariant-loop-record : goal.invariant-loop-record
invariant-loop-record l = record {
  known : l.known ≡ known_orders l.policy (take l.record-index l.records);
  found : l.found.items ≡ records_chosen l.policy l.choice (take l.record-index l.records);
}
