-- What a request ends, if it is granted.
use Rattle.std.specs.{Prelude.{List, [], if◌then◌else◌}, Option.option_map_or}
use Rattle.gx_policy.specs.{declared.policy.PolicyData.PolicyData, People.{is_officer, role_in}}
use Rattle.gx_history.specs.{declared.{live_order.LiveOrder.LiveOrder, «record».{Asked.Asked, RecordData.RecordData}}, Live.live, Requests.action_of}
use Rattle.gx_door.specs.Endings.{ended_among}

-- the live orders that it ends as a command, which is granted to officers alone
abbrev pub ends_of : PolicyData → List RecordData → Asked → List LiveOrder
ends_of policy records a =
    if is_officer (role_in policy.users a.user) then option_map_or (ended_among (live policy records)) (action_of a.request) [] else []
