-- What a step changes.
use Rattle.std.specs.Prelude.{◌≡◌, Bool, IsTrue, IsFalse}
use Rattle.gx_units.specs.declared.names.AccountName.{AccountName}
use Rattle.gx_history.specs.{declared.{facts.StockSide.StockSide, «record».RecordData.RecordData}, MayMove.MayMove, World.{World, move_of, world_after_record, world}, Figures.{of_accounts, on_side}, InForce.is_killed}
use Rattle.gx_laws.specs.{Lifts.EndsKill, Exposure.{HasNothing, NoneIsGranted, side_shares}}
use Rattle.gx_access_gate.specs.Gates.{GateData}

-- all that a step can change, by the gate's records
abbrev pub world_of : GateData → World
world_of gate = world gate.policy gate.records

-- the gate's world, after this record
abbrev pub moved_by : GateData → RecordData → World
moved_by gate r = world_after_record gate.policy (world_of gate) r

-- the record may move the gate's world as it does
abbrev pub MayMoveBy : GateData → RecordData → Type 0
MayMoveBy gate r = MayMove gate.policy (world_of gate) r (move_of gate.policy (world_of gate) r)

-- each account that was killed and is not any more was lifted by the record, by the last of as many different officers as the policy asks for, each
-- of them entitled to lift it
abbrev pub EndsKills : GateData → GateData → RecordData → Type 0
EndsKills old new r = (account : AccountName) →
    IsTrue (is_killed old.policy old.records account) → IsFalse (is_killed new.policy new.records account) → EndsKill old.policy old.records account r

-- accounts that were granted no order have nothing open and nothing executed
abbrev pub NoneHeldWhereNoneAsked : GateData → Type 0
NoneHeldWhereNoneAsked gate = (among : AccountName → Bool) → NoneIsGranted gate.policy gate.records (of_accounts among) → HasNothing gate.policy gate.records among

-- accounts that were granted no order on a side of a stock have nothing open and nothing executed there
abbrev pub NoneOnSideWhereNoneAsked : GateData → Type 0
NoneOnSideWhereNoneAsked gate = (among : AccountName → Bool) (side : StockSide) →
    NoneIsGranted gate.policy gate.records (on_side among side) → side_shares gate.policy gate.records among side ≡ 0
