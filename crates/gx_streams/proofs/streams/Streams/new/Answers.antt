use Rattle.gx_streams.proofs.Streams_first.{opened_sound}
use Rattle.gx_streams.proofs.streams.Streams.new.Goals as goal

pub invariant_of-result : goal.invariant_of-result
invariant_of-result c = opened_sound c.args.policy.now c.in_ok-fills.fills.items c.in_ok-lists.lists c.in_ok-readers.readers c.in_ok-fills.ensures.items c.in_ok-lists.ensures c.in_ok-readers.ensures
