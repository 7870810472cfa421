use Rattle.std.proofs.Common.{arith}
use Rattle.gx_http.proofs.Head_parts.{for_own_host, read_as}
use Rattle.gx_http.proofs.request.read_request.Goals as goal

pub returns-in-Ok-Complete-clause-read : goal.returns-in-Ok-Complete-clause-read
returns-in-Ok-Complete-clause-read c =
    let complete = rw c.in-Ok-Complete.field-0-is at c.in-Ok-Complete.ensures.complete in
    read_as c.args.bytes.now c.parse_request.new.headers c.in-Ok-Complete.head _ (omega (arith, c.parse_request.auto.headers)) complete c.behind_head.ensures

pub returns-in-Ok-Complete-clause-own : goal.returns-in-Ok-Complete-clause-own
returns-in-Ok-Complete-clause-own c =
    let complete = rw c.in-Ok-Complete.field-0-is at c.in-Ok-Complete.ensures.complete in
    for_own_host c.args.bytes.now c.parse_request.new.headers c.in-Ok-Complete.head _ (omega (arith, c.parse_request.auto.headers)) complete c.behind_head.ensures
