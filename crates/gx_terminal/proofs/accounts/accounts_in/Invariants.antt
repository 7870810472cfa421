use Rattle.std.proofs.Common.{◌≡◌, ◌++◌, length}
use Rattle.gx_terminal.specs.Wishes.{accounts_in}
use Rattle.gx_terminal.proofs.accounts.accounts_in.Given as goal

abbrev pub invariant-loop-word : goal.invariant-loop-word
invariant-loop-word l = l.names.items ++ accounts_in l.words.words ≡ accounts_in l.fn.words.words

abbrev pub decreases-loop-word : goal.decreases-loop-word
decreases-loop-word l = length l.words.words
