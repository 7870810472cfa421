use Rattle.gx_streams.proofs.{EndedOrders_owed.{answered_are_told, ended_are_told, none_for_one, one_among_all, two_among_all}, Reports_told.{all_owed, none_owed, one_owed}}
use Rattle.gx_streams.proofs.laws.owed_is_told.Goals as goal

pub returns : goal.returns
returns c = record { one = one_owed; all = all_owed; none = none_owed; empty = none_for_one; single = one_among_all; both = two_among_all; ended = ended_are_told; answered = answered_are_told }
