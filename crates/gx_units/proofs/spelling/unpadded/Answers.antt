use Rattle.std.proofs.{Common.{◌≡◌, ◌+◌, ◌-◌, ◌∙◌, sym, get_or, arith, false}, lemmas.Bool.Decides.nat_tests}
use Rattle.gx_units.specs.Spelling.{is_space}
use Rattle.gx_units.proofs.Trimmed_next.{space_taken, other_taken}
use Rattle.gx_units.proofs.spelling.unpadded.Goals as goal

pub returns-then-field-end-ne32-clause-text : goal.returns-then-field-end-ne32-clause-text
returns-then-field-end-ne32-clause-text c =
    let e : c.loop-end.end - 1 + 1 ≡ c.loop-end.end = omega arith in
    let other : is_space (get_or c.args.field.now (c.loop-end.end - 1) 0) ≡ false = grind (arith, nat_tests, c.if-field-end-ne32.true) in
    let whole = other_taken c.args.field.now (c.loop-end.end - 1) (omega arith) other in
    sym (rw e at whole) ∙ c.loop-end.invariant.same

pub loop-end-preserved : goal.loop-end-preserved
loop-end-preserved c =
    let e : c.loop-end.end - 1 + 1 ≡ c.loop-end.end = omega arith in
    let less = space_taken c.args.field.now (c.loop-end.end - 1) (omega arith) c.if-field-end-ne32.false in
    record { within = omega arith; same = sym (rw e at less) ∙ c.loop-end.invariant.same }
