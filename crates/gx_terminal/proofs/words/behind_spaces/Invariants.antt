use Rattle.std.proofs.Common.{◌≡◌, ◌≤◌, length}
use Rattle.gx_terminal.specs.Cursor.{words_between}
use Rattle.gx_terminal.proofs.words.behind_spaces.Given as goal

abbrev pub invariant-loop-rest : goal.invariant-loop-rest
invariant-loop-rest l = record {
  within : length l.rest ≤ length l.text;
  same : words_between l.rest ≡ words_between l.text;
}

abbrev pub decreases-loop-rest : goal.decreases-loop-rest
decreases-loop-rest l = length l.rest
