use Rattle.gx_matching.proofs.Orders_meet.{matching_is_met, next_record_is_met}
use Rattle.gx_matching.proofs.laws.next_match_is_found.Goals as goal

pub returns : goal.returns
returns c = record { verdict = matching_is_met; entry = next_record_is_met }
