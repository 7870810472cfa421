use Rattle.std.proofs.Common.{◌≡◌, ◌++◌, take}
use Rattle.std.specs.Prelude.{flat_map}
use Rattle.gx_status.specs.Metrics.{limit_sample}
use Rattle.gx_status.proofs.limits.append_limits.Given as goal

abbrev pub invariant-loop-row : goal.invariant-loop-row
invariant-loop-row l = l.text.items ≡ l.initial.text.items ++ flat_map limit_sample (take l.row-index l.rows)
