use Rattle.gx_streams.proofs.{Fills_told.stays_by_fill, Reports_told.{stays_by_all, stays_by_none, stays_by_one}}
use Rattle.gx_streams.proofs.laws.streams_stay_told.Goals as goal

pub returns : goal.returns
returns c = record { one = stays_by_one; all = stays_by_all; none = stays_by_none; fill = stays_by_fill }
