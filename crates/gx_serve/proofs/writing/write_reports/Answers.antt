use Rattle.std.proofs.Common.{◌∙◌, refl}
use Rattle.gx_serve.proofs.Writer_next.{due_still, ends_there, goes_further, is_cut_off}
use Rattle.gx_serve.proofs.writing.write_reports.Goals as goal

pub returns-in-Err : goal.returns-in-Err
returns-in-Err g c = record { spoken = is_cut_off _ _ _ _ _ _ c.await_next_write-due.result (due_still _ _ _ _ _ c.loop.invariant.user c.await_next_write-due.ensures) c.loop.invariant.says c.in-Err.ensures.cut }

pub returns-in-Some-go_on : goal.returns-in-Some-go_on
returns-in-Some-go_on g c = record { spoken = ends_there _ _ _ _ _ _ c.await_next_write-due.result _ c.in-Some-go_on.ensures.last refl c.loop.invariant.says c.in_default.ensures.sent }

pub loop-preserved : goal.loop-preserved
loop-preserved g c = record {
  next = tt;
  finite = tt;
  kept = c.in_default.ensures.kept ∙ c.loop.invariant.kept;
  user = c.go_on.ensures.user ∙ c.loop.invariant.user;
  says = goes_further _ _ _ _ _ _ _ c.await_next_write-due.result _ (due_still _ _ _ _ _ c.loop.invariant.user c.await_next_write-due.ensures) c.in_default.ensures.told c.in_default-go_on.ensures.last refl c.go_on.ensures.next c.loop.invariant.says c.in_default.ensures.sent;
}
