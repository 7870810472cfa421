use Rattle.std.proofs.Common.{◌≡◌, take}
use Rattle.gx_ledger.specs.Counts.{noted_in}
use Rattle.gx_ledger.proofs.tables.note_in.Given as goal

abbrev pub invariant-loop-place : goal.invariant-loop-place
invariant-loop-place l = l.tallies ≡ noted_in l.change l.initial.tallies (take l.place-index l.places)
