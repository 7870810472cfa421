use Rattle.std.proofs.Common.{◌≡◌, ◌++◌, take}
use Rattle.gx_shared.specs.Lines.{IsResuming}
use Rattle.gx_shared.proofs.resuming.note_portion.Given as goal

abbrev pub invariant-loop-earlier : goal.invariant-loop-earlier
invariant-loop-earlier g l = record {
  list : l.keeper.list ≡ l.fn.keeper.list ++ take l.earlier-index l.records;
  stands : IsResuming l.keeper;
}
