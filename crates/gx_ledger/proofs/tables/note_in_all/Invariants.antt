use Rattle.std.proofs.Common.{◌≡◌, ◌++◌, None, take, drop}
use Rattle.gx_ledger.specs.Keeping.{tallies_after}
use Rattle.gx_ledger.proofs.tables.note_in_all.Given as goal

abbrev pub invariant-loop-tally : goal.invariant-loop-tally
invariant-loop-tally l = l.tallies ≡ tallies_after l.change None (take l.tally-index l.initial.tallies) ++ drop l.tally-index l.initial.tallies
