use Rattle.gx_streams.proofs.{Reports_told.{all_owed_shown, kept_last_shown, last_shown, owed_next, places_not_shown}, Fills_told.fill_is_shown}
use Rattle.gx_streams.proofs.laws.changes_are_shown.Goals as goal

pub returns : goal.returns
returns c = record { last = last_shown; kept = kept_last_shown; places = places_not_shown; owed = all_owed_shown; next = owed_next; fills = fill_is_shown }
