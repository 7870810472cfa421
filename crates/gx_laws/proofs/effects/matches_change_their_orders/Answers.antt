use Rattle.gx_laws.proofs.World_kinds.{expiries_end_one, fills_take_from_two, rests_move_one}
use Rattle.gx_laws.proofs.effects.matches_change_their_orders.Goals as goal

pub returns : goal.returns
returns c = record { fills = fills_take_from_two; rests = rests_move_one; expiries = expiries_end_one }
