use Rattle.gx_streams.proofs.Places_kept.{each_has_a_place, none_taken, one_taken, others_keep, owed_taken, places_kept, users_stay}
use Rattle.gx_streams.proofs.laws.places_are_taken.Goals as goal

pub returns : goal.returns
returns c = record { users = users_stay; others = others_keep; last = none_taken; one = one_taken; kept = places_kept; owed = owed_taken; each = each_has_a_place }
