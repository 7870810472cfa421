use Rattle.std.proofs.Common.{◌≢◌, ◌∙◌, length, arith}
use Rattle.gx_client.proofs.Reports_read.{order_read, answer_read, drop_copy_read}
use Rattle.gx_client.proofs.report.report_in.Goals as goal

pub returns-in-34-clause-read_back : goal.returns-in-34-clause-read_back
returns-in-34-clause-read_back c = λ t m is e. c.answer_report.ensures ∙ answer_read _ _ c.in-34.is c.read_answer.ensures.read_back t m is e

pub returns-in-49-clause-read_back : goal.returns-in-49-clause-read_back
returns-in-49-clause-read_back c = λ t m is e. c.drop_copy_report.ensures ∙ drop_copy_read _ _ c.in-49.is c.read_drop_copy.ensures.read_back t m is e

pub returns-in_default-clause-read_back : goal.returns-in_default-clause-read_back
returns-in_default-clause-read_back c =
    let no_answer : length c.args.bytes.now ≢ 34 = omega arith in
    let no_drop_copy : length c.args.bytes.now ≢ 49 = omega arith in
    λ t m is e. c.order_report.ensures ∙ order_read _ _ no_answer no_drop_copy c.read_outbound.ensures.read_back t m is e
