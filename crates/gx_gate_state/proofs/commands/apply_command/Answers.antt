use Rattle.gx_gate_state.proofs.{Command_next.{command_goes_on, command_places, has_room_for, has_setting}, EndedOrders_call.book_is_live, Room_bounds.{both_keep_room, sent_keeps_room, telling_all_keeps_room}, State_next.{day_so, takes_so}}
use Rattle.gx_gate_state.specs.Ends.{next_reports}
use Rattle.gx_gate_state.proofs.commands.apply_command.Goals as goal
use Rattle.gx_history.specs.declared.moves.Move.{Move}

pub set-requires : goal.set-requires
set-requires c = record {
  room = has_room_for c.args.next.data.now c.args.officer c.args.c.now c.args.state.now (takes_so c.args.next.moves.now (Move.Commands c.args.officer c.args.c.now) c.args.next.data.now c.args.state.now c.requires.commands c.requires.takes) c.rules.ensures.sound;
  known = has_setting c.args.next.data.now c.args.officer c.args.c.now c.args.state.now (takes_so c.args.next.moves.now (Move.Commands c.args.officer c.args.c.now) c.args.next.data.now c.args.state.now c.requires.commands c.requires.takes);
}

pub tell_of_command-requires : goal.tell_of_command-requires
tell_of_command-requires c =
    command_places c.args.next.data.now c.args.officer c.args.c.now c.args.state.now _ _ _ _ (day_so c.args.next.data.now c.args.next.moves.now (Move.Commands c.args.officer c.args.c.now) c.args.state.now.status _ c.requires.commands c.apply.ensures) c.granted_code-code.ensures c.in_ok-set.ensures.streams
    (takes_so c.args.next.moves.now (Move.Commands c.args.officer c.args.c.now) c.args.next.data.now c.args.state.now c.requires.commands c.requires.takes) c.requires.places c.rules.ensures.sound

pub end_orders-requires : goal.end_orders-requires
end_orders-requires c = book_is_live c.args.next.moves.now c.args.next.data.now c.args.state.now c.requires.takes

pub returns-clause-ok : goal.returns-clause-ok
returns-clause-ok c =
    command_goes_on c.args.next.data.now c.args.officer c.args.c.now c.granted_code-code.result c.args.state.now _ _
    (takes_so c.args.next.moves.now (Move.Commands c.args.officer c.args.c.now) c.args.next.data.now c.args.state.now c.requires.commands c.requires.takes) c.rules.ensures.sound
    c.in_ok-set.ensures.people c.in_ok-set.ensures.streams c.in_ok-set.ensures.rules (day_so c.args.next.data.now c.args.next.moves.now (Move.Commands c.args.officer c.args.c.now) c.args.state.now.status _ c.requires.commands c.apply.ensures) c.end_orders.ensures.left c.end_orders.ensures.taken c.end_orders.ensures.closed c.granted_code-code.ensures c.tell_of_command.ensures

pub returns-clause-room : goal.returns-clause-room
returns-clause-room c =
    both_keep_room c.args.state.now.streams c.set.new.streams c.tell_of_command.new.streams
    (sent_keeps_room c.args.next.policy.now c.args.state.now.people c.set.new.people c.args.state.now.streams c.set.new.streams c.args.c.now.action c.in_ok-set.ensures.streams)
    (telling_all_keeps_room c.set.new.streams c.tell_of_command.new.streams (next_reports c.args.next c.args.officer c.args.c.now c.granted_code-code.result c.args.state.now.orders.live) c.tell_of_command.ensures)
