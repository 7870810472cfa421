use Rattle.gx_laws.proofs.Masks_bits.{has_where, mask_within}
use Rattle.gx_laws.proofs.history.masks_are_accounts.Goals as goal

pub returns : goal.returns
returns c = record { exact = has_where; within = mask_within }
