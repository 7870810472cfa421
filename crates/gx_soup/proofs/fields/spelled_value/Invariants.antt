use Rattle.std.proofs.Common.{◌≡◌, take}
use Rattle.gx_soup.specs.Login.{in_64_bits, spelled_number}
use Rattle.gx_soup.proofs.fields.spelled_value.Given as goal

abbrev pub invariant-loop-digit : goal.invariant-loop-digit
invariant-loop-digit l = l.number ≡ in_64_bits (spelled_number (take l.digit-index l.digits))
