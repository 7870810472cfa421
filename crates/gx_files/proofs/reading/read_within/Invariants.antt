use Rattle.std.proofs.Common.{◌≡◌, ◌+◌, ◌-◌, ◌≤◌, length}
use Rattle.std.specs.Io.KnownBytes.{Consumes}
use Rattle.gx_files.proofs.reading.read_within.Given as goal

abbrev pub invariant-loop-room : goal.invariant-loop-room
invariant-loop-room g l = record {
  taken : Consumes (g.R.Read.remaining l.fn.reader.device) (g.R.Read.remaining l.reader.device) l.bytes.items;
  within : length l.bytes.items ≤ l.most + 1;
  kept : l.reader.failed ≡ l.fn.reader.failed;
}

abbrev pub decreases-loop-room : goal.decreases-loop-room
decreases-loop-room g l = l.most + 1 - length l.bytes.items
