use Rattle.gx_people.proofs.{Grants_next.kept, Users_laws.named_see}
use Rattle.gx_people.proofs.laws.entitlements_are_kept.Goals as goal

pub returns : goal.returns
returns c = record { by_name = kept; as_written = named_see }
