use Rattle.std.proofs.Common.{◌≤◌, ◌-◌, IsFalse}
use mathlib.Core.List.{IsPrefix}
use Rattle.gx_journal.specs.Journals.{is_broken, known_length}
use Rattle.gx_journal.proofs.journal.Journal.write_up_to.Given as goal

abbrev pub invariant-loop-self : goal.invariant-loop-self
invariant-loop-self g l = record {
  known : l.count ≤ known_length l.self.met;
  met : IsPrefix l.fn.self.met.front l.self.met.front;
  grows : l.fn.self.writer.done ≤ l.self.writer.done;
  sound : IsFalse (is_broken l.self.writer);
}

abbrev pub decreases-loop-self : goal.decreases-loop-self
decreases-loop-self g l = l.count - l.self.writer.done
