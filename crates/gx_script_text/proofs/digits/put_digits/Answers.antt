use Rattle.std.proofs.Common.{ℕ, arith, slice_index}
use Rattle.hex.specs.Hex.{lower_digits}
use Rattle.hex.proofs.Pairs.{encode_step, encode_done}
use Rattle.gx_script_text.proofs.Digits_table.{high_digit, low_digit}
use Rattle.gx_script_text.proofs.digits.put_digits.Goals as goal

pub bytes-preserved : goal.bytes-preserved
bytes-preserved c =
    let byte : ℕ = slice_index c.args.bytes.now c.bytes.i in
    encode_step lower_digits c.args.bytes.now c.bytes.digits c.bytes.i _ _ (omega arith) (omega arith) (high_digit byte (omega arith)) (low_digit byte (omega arith)) c.bytes.invariant

pub returns : goal.returns
returns c =
    encode_done _ _ _ c.bytes.i (omega arith) (omega arith) c.bytes.invariant
