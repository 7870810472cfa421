use Rattle.std.proofs.Common.{◌≡◌, length}
use Rattle.gx_terminal.specs.Wishes.{with_more}
use Rattle.gx_terminal.proofs.reading.with_more.Given as goal

abbrev pub invariant-loop-word : goal.invariant-loop-word
invariant-loop-word l = with_more l.wish l.words.taken l.words.words ≡ with_more l.fn.kill l.fn.words.taken l.fn.words.words

abbrev pub decreases-loop-word : goal.decreases-loop-word
decreases-loop-word l = length l.words.words
