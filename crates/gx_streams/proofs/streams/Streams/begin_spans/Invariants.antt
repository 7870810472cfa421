use Rattle.std.proofs.Common.{◌≡◌}
use Rattle.gx_streams.proofs.streams.Streams.begin_spans.Given as goal

abbrev pub invariant-loop-place : goal.invariant-loop-place
invariant-loop-place l = l.self ≡ l.initial.self
