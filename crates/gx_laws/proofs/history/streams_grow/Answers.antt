use Rattle.gx_laws.proofs.Streams_next.{stream_next}
use Rattle.gx_laws.proofs.history.streams_grow.Goals as goal

pub returns : goal.returns
returns c = stream_next
