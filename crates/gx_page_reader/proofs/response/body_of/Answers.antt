use Rattle.std.proofs.Common.{arith}
use Rattle.gx_page_reader.proofs.Head_parts.{read_as}
use Rattle.gx_page_reader.proofs.response.body_of.Goals as goal

pub returns-in-Ok-Complete-clause-read : goal.returns-in-Ok-Complete-clause-read
returns-in-Ok-Complete-clause-read c =
    let complete = rw c.in-Ok-Complete.field-0-is at c.in-Ok-Complete.ensures.complete in
    read_as c.args.bytes.now c.parse_response.new.headers c.in-Ok-Complete.head _ (omega (arith, c.parse_response.auto.headers)) complete c.behind_head.ensures
