use Rattle.gx_client.proofs.Messages_apart.{no_answer, no_drop_copy, no_officers}
use Rattle.gx_client.proofs.laws.kinds_are_told_apart.Goals as goal

pub returns : goal.returns
returns c = record { answer = no_answer; drop_copy = no_drop_copy; officers = no_officers }
