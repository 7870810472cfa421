use Rattle.std.proofs.Common.{◌∙◌}
use Rattle.gx_desk.specs.Writing.{answer_bytes}
use Rattle.gx_client.specs.{Messages.{IsAnswer, ReadsBack}, Reading.answer_shown}
use Rattle.gx_client.proofs.{Messages_read.{written, none_read}, OfficerMessages_read.answer_back}
use Rattle.gx_client.proofs.reading.read_answer.Goals as goal

pub returns : goal.returns
returns c =
    let back : ReadsBack IsAnswer answer_bytes c.args.bytes.now c.answer_in.result = λ t m is e. c.answer_in.ensures.read ∙ answer_back t m _ is e in
    record {
      written = written answer_bytes answer_shown _ _ c.answer_in.ensures.read;
      held = c.answer_in.ensures.held;
      none = none_read IsAnswer answer_bytes _ _ back;
      read_back = back;
    }
