-- What a request's record does, by what is found to judge it.
use Rattle.std.specs.{Option.option_map_or, Prelude.{Option, Some, None}}
use Rattle.gx_units.specs.declared.names.AccountName.{AccountName}
use Rattle.gx_policy.specs.declared.policy.PolicyData.{PolicyData}
use Rattle.gx_history.specs.{declared.{live_order.LiveOrder.LiveOrder, moves.Move.{Move, TheVariants.{Nothing, PutsOn, Adds, Sizes, Replaces, Commands}}, «record».{Asked.Asked, RecordData.RecordData, Request.Request}}, LiveOrders.replacement_order, Turns.new_order, World.{move_of, world}}
use Rattle.gx_access_gate.specs.Gates.{GateData}

-- what the record does after the gate's records
abbrev pub done_by : GateData → RecordData → Move
done_by gate r = move_of gate.policy (world gate.policy gate.records) r

-- what a granted request does, whose user trades for this account, if for any, and which names this live order, if any
abbrev pub granted_move : PolicyData → RecordData → Asked → Option AccountName → Option LiveOrder → Request → Move
granted_move policy r a account named (Request.Login m) = PutsOn a.user (Some a.line)
granted_move policy r a account named Request.Logout = PutsOn a.user None
granted_move policy r a account named (Request.Unreadable m) = Nothing
granted_move policy r a account named (Request.Enter m) = option_map_or (λ (x : AccountName). Adds (new_order policy r a.user x m)) account Nothing
granted_move policy r a account named (Request.Replace m) = option_map_or (λ (old : LiveOrder). Replaces old (replacement_order r m old)) named Nothing
granted_move policy r a account named (Request.Cancel m) = option_map_or (λ (cut : LiveOrder). Sizes cut m.shares) named Nothing
granted_move policy r a account named (Request.Command c) = Commands a.user c
