use Rattle.std.proofs.Common.{◌∙◌}
use Rattle.gx_ouch.specs.Writing.{outbound_bytes}
use Rattle.gx_client.specs.{Messages.{IsOutbound, ReadsBack}, Reading.outbound_shown}
use Rattle.gx_client.proofs.Messages_read.{written, none_read, outbound_back}
use Rattle.gx_client.proofs.reading.read_outbound.Goals as goal

pub returns : goal.returns
returns c =
    let back : ReadsBack IsOutbound outbound_bytes c.args.bytes.now c.outbound_in.result = λ t m is e. c.outbound_in.ensures.read ∙ outbound_back t m _ is e in
    record {
      written = written outbound_bytes outbound_shown _ _ c.outbound_in.ensures.read;
      held = c.outbound_in.ensures.held;
      none = none_read IsOutbound outbound_bytes _ _ back;
      read_back = back;
    }
