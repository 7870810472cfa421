use Rattle.std.proofs.Common.{◌≡◌, ℕ, ◌+◌, ◌≤◌, List, ◌++◌, length}
use Rattle.gx_script_run.specs.ScriptPiping.{TakesScriptPiece}
use Rattle.gx_script_run.proofs.script.take_piece.Given as goal

abbrev pub invariant-loop-line : goal.invariant-loop-line
invariant-loop-line g l = record {
  done : List ℕ;
  split : l.piece ≡ done ++ l.left;
  takes : TakesScriptPiece (g.G.AccessGate.state l.fn.gate) l.fn.held.rest.items l.fn.held.progress.lines done (g.G.AccessGate.state l.gate) l.held.rest.items l.held.progress.lines (g.W.Write.contents l.fn.writer.device) (g.W.Write.contents l.writer.device);
  counted : l.held.progress.lines + length l.left ≤ l.fn.held.progress.lines + length l.piece;
  kept : l.writer.failed ≡ l.fn.writer.failed;
}

abbrev pub decreases-loop-line : goal.decreases-loop-line
decreases-loop-line g l = length l.left
