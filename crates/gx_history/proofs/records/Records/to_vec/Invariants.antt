use Rattle.std.proofs.Common.{◌≡◌, take}
use Rattle.gx_history.proofs.records.Records.to_vec.Given as goal

-- the records so far are in the list
abbrev pub invariant-loop-place : goal.invariant-loop-place
invariant-loop-place l = l.list.items ≡ take l.place l.self
