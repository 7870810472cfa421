use Rattle.std.proofs.{Common.{subst, refl}, lemmas.Result.err_from_is_err_and}
use Rattle.gx_units.proofs.Results_hold.{on_fault}
use Rattle.gx_script_run.specs.{Leaving.Leaves, Scripting.line_effect}
use Rattle.gx_script_run.proofs.Script_next.{ends_bad, ends_good, half_done, half_written}
use Rattle.gx_script_run.proofs.script.do_line.Goals as goal

pub returns-in_ok-write_flushing-in-Ok-clause-ok : goal.returns-in_ok-write_flushing-in-Ok-clause-ok
returns-in_ok-write_flushing-in-Ok-clause-ok g c = ends_good _ _ _ _ _ _ _ _ c.as_slice.result.now c.in-Ok.ensures.ok c.as_slice.ensures.value c.in_ok-write_flushing-in-Ok.ensures.whole refl

pub returns-in_err-write_flushing-in-Ok-clause-err : goal.returns-in_err-write_flushing-in-Ok-clause-err
returns-in_err-write_flushing-in-Ok-clause-err g c =
    let p = err_from_is_err_and c.from_residual.result c.from_residual.ensures.1 in
    on_fault _ _ _ _ p.1 p.2 (half_written _ _ _ _ _ _ _ c.as_slice.result.now c.in-Ok.ensures.ok c.as_slice.ensures.value c.in_err-write_flushing-in-Ok.ensures.front)

pub returns-in-Err-Bad-clause-ok : goal.returns-in-Err-Bad-clause-ok
returns-in-Err-Bad-clause-ok g c =
    let left = subst (Leaves (g.G.AccessGate.state c.args.gate.now) (line_effect (g.G.AccessGate.state c.args.gate.now) c.args.line.now) (g.G.AccessGate.state c.take_line.new.gate)) c.in-Err-Bad.field-0-is c.in-Err-Bad.ensures.err in
    ends_bad _ _ _ _ _ _ left.0 left.1 refl

pub returns-in-Err-OutOfMemory-clause-err : goal.returns-in-Err-OutOfMemory-clause-err
returns-in-Err-OutOfMemory-clause-err g c =
    half_done _ _ _ _ _ (subst (Leaves (g.G.AccessGate.state c.args.gate.now) (line_effect (g.G.AccessGate.state c.args.gate.now) c.args.line.now) (g.G.AccessGate.state c.take_line.new.gate)) c.in-Err-OutOfMemory.field-0-is c.in-Err-OutOfMemory.ensures.err)
