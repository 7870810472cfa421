use Rattle.gx_serve.proofs.Reader_next.{heard_first, heard_more, heard}
use Rattle.gx_serve.proofs.reading.read_on.Goals as goal

pub loop-init : goal.loop-init
loop-init g c = record { next = tt; finite = tt; hears = λ before opening. heard_first before _ _ _ _ c.into_feeder-feeder.ensures opening c.take_opening-left.ensures }

pub loop-preserved : goal.loop-preserved
loop-preserved g c = record { next = tt; finite = tt; hears = λ before opening. heard_more before _ _ _ _ _ _ _ _ (c.loop.invariant.hears before opening) c.in-Some-read_piece.ensures.read c.hear_piece-left.ensures }

pub returns-in_default : goal.returns-in_default
returns-in_default g c before opening = heard before _ _ _ _ _ _ _ (c.loop.invariant.hears before opening) c.in_default.ensures.ended
