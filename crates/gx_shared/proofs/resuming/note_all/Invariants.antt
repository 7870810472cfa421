use Rattle.std.proofs.Common.{◌≡◌, ◌-◌, take}
use Rattle.gx_shared.specs.Lines.{IsResuming}
use Rattle.gx_shared.proofs.resuming.note_all.Given as goal

abbrev pub invariant-loop-done : goal.invariant-loop-done
invariant-loop-done g l = record {
  list : l.keeper.list ≡ take l.done (g.G.AccessGate.state l.gate).records;
  stands : IsResuming l.keeper;
}

abbrev pub decreases-loop-done : goal.decreases-loop-done
decreases-loop-done g l = l.length - l.done
