use Rattle.std.proofs.{Common.{◌∷◌, [], ◌++◌, length, length-append, append_assoc, refl, sym, ap, ◌∙◌, arith}, lemmas.Result.err_from_is_err_and}
use Rattle.gx_units.proofs.Results_hold.{on_fault}
use Rattle.gx_script_run.specs.ScriptTexts.{with_line_end}
use Rattle.gx_script_run.proofs.Script_next.{finds_line, finds_long, pauses_here, stops_line, takes_front, takes_line, takes_none}
use Rattle.gx_script_run.proofs.script.take_piece.Goals as goal

pub loop-line-init : goal.loop-line-init
loop-line-init g c = record { done = []; split = refl; takes = takes_none _ _ _ _; counted = omega arith; kept = refl }

pub loop-line-preserved : goal.loop-line-preserved
loop-line-preserved g c =
    let i = c.loop-line.invariant in
    let line = with_line_end c.in-Some.line.now in
    let behind = c.in-Some.behind.now in
    record {
      done = i.done ++ line;
      split = i.split ∙ (ap (λ l. i.done ++ l) c.in-Some.ensures.parts ∙ sym (append_assoc i.done line behind));
      takes = takes_line _ _ _ _ _ _ _ _ _ i.takes c.in-Some.line.now c.in-Some.ensures.line _ _ _ _ (rw c.if-is_bad.false at c.in_ok-is_bad.ensures.ok) (c.in_ok-is_bad.ensures.cleared c.if-is_bad.false);
      counted = omega (arith, c.in_ok-is_bad.ensures.counted, i.counted, ap length c.in-Some.ensures.parts, length-append line behind, length-append c.in-Some.line.now (10 ∷ []));
      kept = c.in_ok-is_bad.ensures.kept ∙ i.kept;
    }

pub returns-then-is_bad-clause-bad : goal.returns-then-is_bad-clause-bad
returns-then-is_bad-clause-bad g c = λ is.
    let i = c.loop-line.invariant in
    finds_line _ _ _ _ _ _ _ _ _ i.takes c.in-Some.line.now c.in-Some.ensures.line c.in-Some.behind.now c.args.piece.now (i.split ∙ ap (λ l. i.done ++ l) c.in-Some.ensures.parts) _ _ _ (rw c.if-is_bad.true at c.in_ok-is_bad.ensures.ok)

pub returns-in_err-is_bad-clause-err : goal.returns-in_err-is_bad-clause-err
returns-in_err-is_bad-clause-err g c =
    let p = err_from_is_err_and c.from_residual.result c.from_residual.ensures.1 in
    let i = c.loop-line.invariant in
    on_fault _ _ _ _ p.1 p.2 (stops_line _ _ _ _ _ _ _ _ _ i.takes c.in-Some.line.now c.in-Some.ensures.line c.in-Some.behind.now c.args.piece.now (i.split ∙ ap (λ l. i.done ++ l) c.in-Some.ensures.parts) _ _ _ c.in_err-is_bad.ensures.err)

pub returns-in_err-take_front-clause-err : goal.returns-in_err-take_front-clause-err
returns-in_err-take_front-clause-err g c =
    let p = err_from_is_err_and c.from_residual-in_err-take_front.result c.from_residual-in_err-take_front.ensures.1 in
    let i = c.loop-line.invariant in
    on_fault _ _ _ _ p.1 p.2 (pauses_here _ _ _ _ _ _ _ _ _ i.takes c.args.piece.now c.loop-line.left.now i.split)

pub returns-clause-ok : goal.returns-clause-ok
returns-clause-ok g c = λ short.
    let i = c.loop-line.invariant in
    takes_front _ _ _ _ _ _ _ _ _ i.takes c.loop-line.left.now c.in_default.ensures.none c.args.piece.now _ _ i.split (c.in_ok-take_front.ensures.ok short) (c.in_ok-take_front.ensures.lines short)

pub returns-clause-bad : goal.returns-clause-bad
returns-clause-bad g c = λ long.
    let i = c.loop-line.invariant in
    finds_long _ _ _ _ _ _ _ _ _ i.takes c.loop-line.left.now c.in_default.ensures.none c.args.piece.now _ i.split (c.in_ok-take_front.ensures.long long) (c.in_ok-take_front.ensures.counted long)
