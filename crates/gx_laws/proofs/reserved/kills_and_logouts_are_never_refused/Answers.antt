use Rattle.gx_laws.proofs.ReservedPlaces_enough.{kept_places_are_enough, kept_records_take_places}
use Rattle.gx_laws.proofs.reserved.kills_and_logouts_are_never_refused.Goals as goal

pub returns : goal.returns
returns c = record { told = kept_places_are_enough; recorded = kept_records_take_places }
