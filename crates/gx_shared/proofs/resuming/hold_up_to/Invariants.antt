use Rattle.std.proofs.Common.{◌≡◌, ◌-◌, max}
use Rattle.gx_shared.specs.Lines.{lines_to}
use Rattle.gx_shared.proofs.resuming.hold_up_to.Given as goal

abbrev pub invariant-loop-keeper : goal.invariant-loop-keeper
invariant-loop-keeper g l = record {
  list : l.keeper.list ≡ l.fn.keeper.list;
  entered : l.keeper.entered ≡ lines_to l.keeper.issued;
  most : max l.keeper.issued l.line ≡ max l.fn.keeper.issued l.line;
}

abbrev pub decreases-loop-keeper : goal.decreases-loop-keeper
decreases-loop-keeper g l = l.line - l.keeper.issued
