use Rattle.gx_client.proofs.Messages_apart.{outbound_apart, answer_apart, drop_copy_apart}
use Rattle.gx_client.proofs.laws.messages_are_told_apart.Goals as goal

pub returns : goal.returns
returns c = record { outbound = outbound_apart; answer = answer_apart; drop_copy = drop_copy_apart }
