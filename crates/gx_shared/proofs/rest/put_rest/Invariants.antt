use Rattle.std.proofs.Common.{◌≡◌, ◌≤◌, ◌-◌, None, length}
use Rattle.std.specs.{Prelude.vec_capacity, Io.KnownBytes.Appends}
use Rattle.gx_journal.specs.Journals.{records_between, journal_bytes, most_at_once}
use Rattle.gx_shared.proofs.rest.put_rest.Given as goal

abbrev pub invariant-loop-writer : goal.invariant-loop-writer
invariant-loop-writer g l = record {
  first : l.fn.writer.done ≤ l.writer.done;
  within : l.writer.done ≤ length (g.G.AccessGate.state l.gate).records;
  room : most_at_once ≤ vec_capacity l.room;
  sound : l.writer.fault ≡ None;
  begun : l.fn.writer.fault ≡ None;
  version : l.writer.version ≡ l.fn.writer.version;
  bytes : Appends l.fn.writer.contents l.writer.contents (journal_bytes l.fn.writer.version (records_between l.fn.writer.done l.writer.done (g.G.AccessGate.state l.gate).records));
}

abbrev pub decreases-loop-writer : goal.decreases-loop-writer
decreases-loop-writer g l = l.count - l.writer.done
