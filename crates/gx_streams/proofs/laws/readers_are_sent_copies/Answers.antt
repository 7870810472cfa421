use Rattle.gx_streams.proofs.Copies_only.{fills_alone, readers_are, sent_is_kept, streams_are_copies}
use Rattle.gx_streams.proofs.laws.readers_are_sent_copies.Goals as goal

pub returns : goal.returns
returns c = record {
  copies = λ policy history reader legal reads. streams_are_copies reader legal (readers_are policy reader reads);
  kept = sent_is_kept;
  alone = fills_alone;
}
