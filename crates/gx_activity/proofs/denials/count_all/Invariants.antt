use Rattle.std.proofs.Common.{◌≡◌, take}
use Rattle.gx_activity.specs.Denying.{denial_table}
use Rattle.gx_activity.proofs.denials.count_all.Given as goal

abbrev pub invariant-loop-place : goal.invariant-loop-place
invariant-loop-place l = l.table.entries ≡ denial_table l.policy (take l.place l.records)
