use Rattle.std.proofs.Common.{◌≡◌, ◌++◌, take}
use Rattle.std.specs.Prelude.{flat_map}
use Rattle.gx_status.specs.Metrics.{denied_sample}
use Rattle.gx_status.proofs.metrics.append_denied.Given as goal

abbrev pub invariant-loop-row : goal.invariant-loop-row
invariant-loop-row l = l.text.items ≡ l.initial.text.items ++ flat_map denied_sample (take l.row-index l.rows)
