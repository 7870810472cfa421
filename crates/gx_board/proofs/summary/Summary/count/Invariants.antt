use Rattle.std.proofs.Common.{◌≡◌, take}
use Rattle.gx_board.specs.Summaries.{Counted}
use Rattle.gx_board.proofs.summary.Summary.count.Given as goal

abbrev pub invariant-loop-place : goal.invariant-loop-place
invariant-loop-place l = Counted (take l.place l.more) l.initial.self l.self × (l.self.commands.items ≡ l.initial.self.commands.items)
