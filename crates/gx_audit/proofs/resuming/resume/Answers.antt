use Rattle.std.proofs.Common.{arith}
use Rattle.gx_audit.proofs.File_call.{is_day}
use Rattle.gx_audit.proofs.resuming.resume.Goals as goal

pub size_of-kept-requires : goal.size_of-kept-requires
size_of-kept-requires g c = omega (arith, c.in-Ok.ensures.size, c.length.ensures.count, c.type_inv.file)

pub returns-in-Ok-clause-stands : goal.returns-in-Ok-clause-stands
returns-in-Ok-clause-stands g c = is_day c.args.file.now c.size_of-kept.result c.length.result c.in-Ok.ensures.records c.length.ensures.count c.size_of-kept.ensures
