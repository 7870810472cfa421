use Rattle.std.proofs.{Common.{rules}, lemmas.Nat.le_bytes_8}
use Rattle.gx_units.proofs.Names_compared.{as_numbers}
use Rattle.gx_units.proofs.comparing.are_same.Goals as goal

pub returns : goal.returns
returns c =
    as_numbers c.args.left c.args.right _ _
    (le_bytes_8 c.args.left _ (search rules) (search rules) c.from_le_bytes.ensures)
    (le_bytes_8 c.args.right _ (search rules) (search rules) c.from_le_bytes-2.ensures)
    c.from_le_bytes.ensures c.from_le_bytes-2.ensures
