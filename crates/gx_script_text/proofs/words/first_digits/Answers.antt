use Rattle.std.proofs.{Common.{◌<◌, ◌^◌, arith}, lemmas.List.length-take}
use Rattle.gx_script_text.proofs.Words_read.{few_digits}
use Rattle.gx_script_text.proofs.words.first_digits.Goals as goal

pub overflow_mul-number : goal.overflow_mul-number
overflow_mul-number c =
    let few : c.loop-digit.number < 10 ^ 18 = few_digits c.loop-digit.digit-index c.loop-digit.number c.loop-digit.invariant.small (omega (arith, c.loop-digit-test.true, c.min.ensures, length-take c.min.result c.args.text.now)) in
    omega (arith, few)

pub overflow_add-number : goal.overflow_add-number
overflow_add-number c =
    let few : c.loop-digit.number < 10 ^ 18 = few_digits c.loop-digit.digit-index c.loop-digit.number c.loop-digit.invariant.small (omega (arith, c.loop-digit-test.true, c.min.ensures, length-take c.min.result c.args.text.now)) in
    omega (arith, few, c.from.ensures)
