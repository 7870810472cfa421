use Rattle.std.proofs.Common.{arith}
use Rattle.gx_files.proofs.Pieces_next.{taken_on}
use Rattle.gx_files.proofs.reading.read_within.Goals as goal

pub returns-in_err-read_more-clause-bounded : goal.returns-in_err-read_more-clause-bounded
returns-in_err-read_more-clause-bounded g c =
    taken_on _ _ _ c.loop-room.bytes.items _ _ c.loop-room.invariant.taken (omega arith) c.read_more.ensures.bounded
