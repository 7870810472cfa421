use Rattle.std.proofs.Common.{◌≡◌, ◌++◌, map, take, drop}
use Rattle.gx_events.specs.Known.{limit_set}
use Rattle.gx_events.proofs.limits.set_each.Given as goal

abbrev pub invariant-loop-held : goal.invariant-loop-held
invariant-loop-held l = l.limits ≡ map (limit_set l.name l.limit) (take l.held-index l.initial.limits) ++ drop l.held-index l.initial.limits
