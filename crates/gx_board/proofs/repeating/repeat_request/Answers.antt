use Rattle.gx_board.proofs.Records_repeated.{has_room}
use Rattle.gx_board.proofs.repeating.repeat_request.Goals as goal

-- a record that follows finds its place
pub unreachable-requires : goal.unreachable-requires
unreachable-requires g c =
    has_room (g.G.AccessGate.state c.args.gate.now) c.args.asked c.args.left.now c.requires.step c.requires.follows (c.in-Err-DayFull.ensures.day_full c.in-Err-DayFull.field-0-is) c.in-Err-DayFull.ensures.never_refused
