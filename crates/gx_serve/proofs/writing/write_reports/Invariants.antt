use Rattle.std.proofs.Common.{◌≡◌}
use Rattle.gx_serve.proofs.Writer_next.{Says}
use Rattle.gx_serve.proofs.writing.write_reports.Given as goal

abbrev pub invariant-loop : goal.invariant-loop
invariant-loop g l = record {
  next : (goal.iterator-loop g).can_next l.iterator';
  finite : (goal.iterator-loop g).is_finite l.iterator';
  kept : l.writer.failed ≡ l.fn.writer.failed;
  user : l.bookmark.user ≡ l.fn.bookmark.user;
  says : Says g.D.Door.kept g.D.Door.policy l.fn.bookmark.user l.fn.bookmark.next l.bookmark.next (g.O.Write.contents l.fn.writer.device) (g.O.Write.contents l.writer.device);
}
