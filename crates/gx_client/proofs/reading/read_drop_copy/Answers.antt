use Rattle.std.proofs.Common.{◌∙◌}
use Rattle.gx_desk.specs.Writing.{drop_copy_bytes}
use Rattle.gx_client.specs.{Messages.{IsDropCopy, ReadsBack}, Reading.drop_copy_shown}
use Rattle.gx_client.proofs.{Messages_read.{written, none_read}, OfficerMessages_read.drop_copy_back}
use Rattle.gx_client.proofs.reading.read_drop_copy.Goals as goal

pub returns : goal.returns
returns c =
    let back : ReadsBack IsDropCopy drop_copy_bytes c.args.bytes.now c.drop_copy_in.result = λ t m is e. c.drop_copy_in.ensures.read ∙ drop_copy_back t m _ is e in
    record {
      written = written drop_copy_bytes drop_copy_shown _ _ c.drop_copy_in.ensures.read;
      held = c.drop_copy_in.ensures.held;
      none = none_read IsDropCopy drop_copy_bytes _ _ back;
      read_back = back;
    }
