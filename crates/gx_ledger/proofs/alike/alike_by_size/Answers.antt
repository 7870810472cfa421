use Rattle.std.proofs.Common.{sym, ◌∙◌}
use Rattle.gx_ledger.proofs.Enters_alike.{none_alike}
use Rattle.gx_ledger.proofs.alike.alike_by_size.Goals as goal

pub returns-else-is_one_sized_alike : goal.returns-else-is_one_sized_alike
returns-else-is_one_sized_alike c = sym (none_alike c.args.asked.now c.args.enters.now (sym c.is_one_sized_alike.ensures ∙ c.if-is_one_sized_alike.false))
