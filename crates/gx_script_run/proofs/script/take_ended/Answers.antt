use Rattle.std.proofs.{Common.{◌++◌, refl, inl}, lemmas.Result.err_from_is_err_and}
use Rattle.gx_units.proofs.Results_hold.{on_fault}
use Rattle.gx_script_run.proofs.{Lines_cut.long_is_bad, Script_next.{ends_bad, half_done}}
use Rattle.gx_script_run.proofs.script.take_ended.Goals as goal

pub returns-then-branch-clause-ok : goal.returns-then-branch-clause-ok
returns-then-branch-clause-ok g c =
    let long = c.if-branch.true in
    ends_bad _ _ (c.args.held.now.rest.items ++ c.args.front.now) _ _ _ (long_is_bad _ _ (c.in_ok-take_front.ensures.long long)) refl (c.in_ok-take_front.ensures.counted long)

pub returns-in_err-take_front-clause-err : goal.returns-in_err-take_front-clause-err
returns-in_err-take_front-clause-err g c =
    let p = err_from_is_err_and c.from_residual.result c.from_residual.ensures.1 in
    on_fault _ _ _ _ p.1 p.2 (half_done _ _ _ _ _ (inl refl))
