-- What rules on running sums keep, by the laws of orders, fills and grants.
use Rattle.gx_laws.proofs.{Turns_allowed.records_may_come, Positions_next.positions_go_on, Positions_sound.positions_are_sound, Exposure_later.GoOn, Limits_kept.{net_stays_within, shares_stay_within, values_stay_within}, Exposure_none.{no_shares, none_asked}}
use Rattle.gx_history.specs.Figures.{on_side}
use Rattle.gx_laws.specs.ExposureLaws.{GrossSharesAreKept, GrossValuesAreKept, NetSharesAreKept, NoneAskedNoneHeld, NoneAskedNoneOnSide}

go_on : GoOn
go_on = record { go_on = positions_go_on; may_come = records_may_come; are_sound = positions_are_sound }

pub gross_shares_are_kept : GrossSharesAreKept
gross_shares_are_kept = shares_stay_within go_on

pub gross_values_are_kept : GrossValuesAreKept
gross_values_are_kept = values_stay_within go_on

pub none_asked_none_held : NoneAskedNoneHeld
none_asked_none_held = none_asked

pub net_shares_are_kept : NetSharesAreKept
net_shares_are_kept = net_stays_within go_on

pub none_asked_none_on_side : NoneAskedNoneOnSide
none_asked_none_on_side policy history among side legal none = no_shares policy history (on_side among side) legal none
